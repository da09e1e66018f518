-- `reals::put` meets its contract: the bits of a float are 64, so that its high word is one.
use mathlib.Core.Path.{refl, sym, subst}
use native.Mathlib.Omega.{arith}
use lib.Dec.{T}
use Rattle.real_rules.specs.Real.{settled}
use Rattle.real_rules.proofs.Laws.{bits_below}
use Rattle.reals.proofs.put.Goals as goal

pub overflow_cast-z-2 : goal.overflow_cast-z-2
overflow_cast-z-2 c = omega (arith, bits_below c.args.x (subst T (sym c.well_formed.1.0.1) tt))

pub returns : goal.returns
unfolding settled
returns c = refl
