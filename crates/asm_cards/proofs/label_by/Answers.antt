-- `asm_cards::label_by` meets its contract: a skipped line has none.
use Rattle.base.specs.Test.{if}
use Rattle.asm_cards.proofs.label_by.Goals as goal

pub returns-then-is_skipped : goal.returns-then-is_skipped
unfolding if
returns-then-is_skipped c = rw (← c.is_skipped.ensures, c.if-is_skipped.true)

pub returns : goal.returns
unfolding if
returns c = rw (← c.is_skipped.ensures, c.if-is_skipped.false) c.label_of.ensures
