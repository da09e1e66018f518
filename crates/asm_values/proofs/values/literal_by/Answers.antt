-- `asm_values::values::literal_by`: each arm is the clause of its meaning.
use mathlib.Core.Path.{◌∙◌, refl, subst}
use native.Mathlib.Omega.{arith}
use Rattle.asm_symbols.specs.Symbolic.{Fits}
use Rattle.asm_values.proofs.values.literal_by.Goals as goal

pub gives-requires : goal.gives-requires
gives-requires c = omega (arith, subst Fits c.in-AddressOf.is c.requires)

pub gives-requires-in-ValueOf : goal.gives-requires-in-ValueOf
gives-requires-in-ValueOf c = omega (arith, subst Fits c.in-ValueOf.is c.requires)

pub entry_value-requires : goal.entry_value-requires
entry_value-requires c = subst Fits c.in-PlaceOf.is c.requires

pub awaits_of_sort-requires : goal.awaits_of_sort-requires
awaits_of_sort-requires c = (subst Fits c.in-Lacking.is c.requires, omega arith)

pub returns-in-AddressOf : goal.returns-in-AddressOf
returns-in-AddressOf c = c.gives.ensures ∙ rw c.in-AddressOf.is refl

pub returns-in-ValueOf : goal.returns-in-ValueOf
returns-in-ValueOf c = c.gives-in-ValueOf.ensures ∙ rw c.in-ValueOf.is refl

pub returns-in-PlaceOf : goal.returns-in-PlaceOf
returns-in-PlaceOf c = c.entry_value.ensures ∙ rw c.in-PlaceOf.is refl

pub returns-in-Lacking : goal.returns-in-Lacking
returns-in-Lacking c = c.awaits_of_sort.ensures ∙ rw c.in-Lacking.is refl
