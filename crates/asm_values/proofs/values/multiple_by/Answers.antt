-- `asm_values::values::multiple_by`: each arm is the clause of its meaning.
use mathlib.Core.Path.{◌∙◌, refl, subst}
use native.Mathlib.Omega.{arith}
use Rattle.asm_symbols.specs.Symbolic.{Fits}
use Rattle.asm_values.proofs.values.multiple_by.Goals as goal

pub overflow_mul-e : goal.overflow_mul-e
overflow_mul-e c = omega (arith, subst Fits c.in-ValueOf.is c.requires)

pub returns-in-ValueOf : goal.returns-in-ValueOf
returns-in-ValueOf c = c.value_within.ensures ∙ rw c.in-ValueOf.is refl
