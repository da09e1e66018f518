-- `asm_operands::operands::with_value`: each arm is the clause of its outcome.
use mathlib.Core.Path.{◌∙◌, refl}
use Rattle.asm_operands.proofs.operands.with_value.Goals as goal

pub returns-in-Gives : goal.returns-in-Gives
returns-in-Gives c = c.combined.ensures ∙ rw c.in-Gives.is refl
