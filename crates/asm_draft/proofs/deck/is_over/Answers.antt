-- `asm_draft::deck::is_over` meets its contract: each arm is its part.
use mathlib.Core.Path.{refl}
use Rattle.asm_draft.proofs.deck.is_over.Goals as goal

pub returns-in-Fresh : goal.returns-in-Fresh
returns-in-Fresh c = rw c.in-Fresh.is refl

pub returns-in-Counts : goal.returns-in-Counts
returns-in-Counts c = rw c.in-Counts.is refl

pub returns-in-Starts : goal.returns-in-Starts
returns-in-Starts c = rw c.in-Starts.is refl
