-- `asm_values::values::place_by`: each arm is the clause of its meaning.
use mathlib.Core.Path.{◌∙◌, refl, subst}
use native.Mathlib.Omega.{arith}
use Rattle.asm_symbols.specs.Symbolic.{Fits}
use Rattle.asm_values.proofs.values.place_by.Goals as goal

pub gives-requires : goal.gives-requires
gives-requires c = omega (arith, subst Fits c.in-PlaceOf.is c.requires)

pub returns-in-PlaceOf : goal.returns-in-PlaceOf
returns-in-PlaceOf c = c.gives.ensures ∙ rw c.in-PlaceOf.is refl
