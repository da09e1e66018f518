-- `asm_values::values::equal_by_lem`: each arm is the clause of its meaning.
use mathlib.Core.Path.{◌∙◌, refl}
use Rattle.asm_values.proofs.values.equal_by.Goals as goal

pub returns-in-ValueOf : goal.returns-in-ValueOf
returns-in-ValueOf c = c.earlier_value.ensures ∙ rw c.in-ValueOf.is refl
