-- `asm_values::values::address_by`: each arm is the clause of its meaning.
use mathlib.Core.Path.{◌∙◌, refl, subst}
use native.Mathlib.Omega.{arith}
use Rattle.asm_symbols.specs.Symbolic.{Fits}
use Rattle.asm_values.proofs.values.address_by.Goals as goal

pub gives-requires : goal.gives-requires
gives-requires c = omega (arith, subst Fits c.in-AddressOf.is c.requires)

pub returns-in-AddressOf : goal.returns-in-AddressOf
returns-in-AddressOf c = c.gives.ensures ∙ rw c.in-AddressOf.is refl
