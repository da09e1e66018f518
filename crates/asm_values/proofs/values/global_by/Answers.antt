-- `asm_values::values::global_by`: each arm is the clause of its meaning.
use mathlib.Core.Path.{◌∙◌, refl, subst}
use Rattle.asm_symbols.specs.Symbolic.{Fits}
use Rattle.asm_values.proofs.values.global_by.Goals as goal

pub global_place-requires : goal.global_place-requires
global_place-requires c = let f = subst Fits c.in-PlaceOf.is c.requires in f.1

pub returns-in-PlaceOf : goal.returns-in-PlaceOf
returns-in-PlaceOf c = c.global_place.ensures ∙ rw c.in-PlaceOf.is refl

pub returns-in-Lacking : goal.returns-in-Lacking
returns-in-Lacking c = c.global_awaits.ensures ∙ rw c.in-Lacking.is refl
