-- `asm_values::values::value_by`: each arm is the clause of its meaning.
use mathlib.Core.Path.{◌∙◌, refl}
use Rattle.asm_values.proofs.values.value_by.Goals as goal

pub returns-in-ValueOf : goal.returns-in-ValueOf
returns-in-ValueOf c = c.value_within.ensures ∙ rw c.in-ValueOf.is refl
