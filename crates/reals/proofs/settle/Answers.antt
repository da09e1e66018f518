-- `reals::settle` meets its contract: by cases of the answer; a value is no NaN.
use mathlib.Core.Path.{subst, ◌∙◌}
use lib.Dec.{T}
use Rattle.reals.specs.declared.Real.{Real}
use Rattle.real_rules.specs.Real.{settled}
use Rattle.real_rules.specs.Real.{proper}
use Rattle.reals.specs.Views.{real_view}
use Rattle.reals.proofs.Views.{settled-by}
use Rattle.reals.proofs.settle.Goals as goal

pub put-requires : goal.put-requires
put-requires c = subst (λ (r : Real). T (proper (real_view r))) c.in-Finite.is c.requires

pub returns-in-Finite : goal.returns-in-Finite
returns-in-Finite c = c.put.ensures ∙ settled-by _ c.in-Finite.is

pub returns-in-Overflow : goal.returns-in-Overflow
unfolding settled
returns-in-Overflow c = settled-by _ c.in-Overflow.is
