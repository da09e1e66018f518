-- `asm_values::values::callee_by`: each arm is the clause of its meaning.
use mathlib.Core.Path.{◌∙◌, refl, subst}
use native.Mathlib.Omega.{arith}
use Rattle.asm_symbols.specs.Symbolic.{Fits}
use Rattle.asm_values.proofs.values.callee_by.Goals as goal

pub gives-requires : goal.gives-requires
gives-requires c = omega (arith, subst Fits c.in-ExternalOf.is c.requires)

pub place_of_sort-requires : goal.place_of_sort-requires
place_of_sort-requires c = let f = subst Fits c.in-PlaceOf.is c.requires in (f.0, f.1, omega arith)

pub awaits_of_sort-requires : goal.awaits_of_sort-requires
awaits_of_sort-requires c = (subst Fits c.in-Lacking.is c.requires, omega arith)

pub returns-in-ExternalOf : goal.returns-in-ExternalOf
returns-in-ExternalOf c = c.gives.ensures ∙ rw c.in-ExternalOf.is refl

pub returns-in-PlaceOf : goal.returns-in-PlaceOf
returns-in-PlaceOf c = c.place_of_sort.ensures ∙ rw c.in-PlaceOf.is refl

pub returns-in-Lacking : goal.returns-in-Lacking
returns-in-Lacking c = c.awaits_of_sort.ensures ∙ rw c.in-Lacking.is refl
