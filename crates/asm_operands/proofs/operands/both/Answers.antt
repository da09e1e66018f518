-- `asm_operands::operands::both`: each arm is the clause of its outcome.
use mathlib.Core.Path.{◌∙◌, refl}
use Rattle.asm_operands.proofs.operands.both.Goals as goal

pub returns-in-Gives : goal.returns-in-Gives
returns-in-Gives c = c.with_value.ensures ∙ rw c.in-Gives.is refl
