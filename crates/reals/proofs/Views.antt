-- Laws of the code's answers.
-- Assumes nothing.
use Prim.Native.Nat.{ℕ}
use mathlib.Core.Path.{◌≡◌, sym, ap, ◌∙◌}
use mathlib.Core.List.{List}
use lib.Ieee.{Float}
use Rattle.real_rules.specs.Real as R
use Rattle.real_rules.specs.Real.{answer, both, tests, settled}
use Rattle.real_rules.proofs.Laws.{both_values}
use Rattle.reals.specs.declared.Real.{Real}
use Rattle.reals.specs.declared.Real.TheVariants.{Finite}
use Rattle.reals.specs.declared.Comparison.{Comparison}
use Rattle.reals.specs.Views.{real_view, with_zero}

pub settled-by : (z : List ℕ) {r q : Real} → r ≡ q → settled (real_view q) z ≡ settled (real_view r) z
settled-by z e = sym (ap (λ (x : Real). settled (real_view x) z) e)

-- an operation on two values, and a comparison of one with zero
pub both_by : (f : Float → Float → Float) {a b : Real} {x y : Float} {r : R.Real} → r ≡ answer (f x y) → a ≡ Finite x → b ≡ Finite y → r ≡ both f (real_view a) (real_view b)
both_by f e p q = e ∙ sym (both_values f _ _ _ _ (ap real_view p) (ap real_view q))

pub tests_by : {o q : Comparison} {a : Real} {x : Float} → o ≡ q → a ≡ Finite x → with_zero q x ≡ tests (with_zero o) (real_view a)
tests_by e p = rw (e, p)
