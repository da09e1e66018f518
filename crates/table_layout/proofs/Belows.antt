-- Laws of a test at each of the first numbers: one more, and where it fails.
-- Assumes nothing.
use Prim.Native.Nat.{ℕ, zero, suc, ◌+◌, ◌<◌}
use mathlib.Core.Path.{◌≡◌, refl, sym, subst, ◌∙◌}
use mathlib.Core.Bool.{Bool, true, false}
use mathlib.Core.Logic.{◌⊎◌, ⊎_elim}
use native.Mathlib.Omega.{arith}
use native.Mathlib.Numerals.{add-one}
use Rattle.base.specs.Test.{◌and◌}
use Rattle.base.proofs.Bool.{and_l, and_r, test-true, true-ok}
use Rattle.rules.proofs.Facts.{lt-suc-cases}
use Rattle.table_layout.specs.Below.{below}

pub and-false : (a : Bool) → a and false ≡ false
unfolding ◌and◌
and-false true = refl
and-false false = refl

pub and-true : (a : Bool) → a and true ≡ a
unfolding ◌and◌
and-true true = refl
and-true false = refl

pub below-zero : (f : ℕ → Bool) → below f 0 ≡ true
unfolding below
below-zero f = refl

pub below_more : (f : ℕ → Bool) (k : ℕ) → below f k ≡ true → f k ≡ true → below f (k + 1) ≡ true
unfolding below ◌and◌
below_more f k h e = rw (add-one k, h) e

pub below_fails : (f : ℕ → Bool) (k i : ℕ) → i < k → f i ≡ false → below f k ≡ false
unfolding below ◌and◌
below_fails f zero i h e = absurd (omega arith)
below_fails f (suc k) i h e =
    ⊎_elim (λ (l : i < k). rw (below_fails f k i l e))
    (λ (q : i ≡ k). let g : f k ≡ false = subst (λ (j : ℕ). f j ≡ false) q e in rw g (and-false (below f k)))
    (lt-suc-cases i k h)

pub below_at : (f : ℕ → Bool) (k : ℕ) → below f k ≡ true → (i : ℕ) → i < k → f i ≡ true
unfolding below
below_at f zero h i l = absurd (omega arith)
below_at f (suc k) h i l =
    ⊎_elim (below_at f k (test-true _ (and_l _ _ (true-ok _ h))) i)
    (λ (q : i ≡ k). rw q (test-true _ (and_r _ _ (true-ok _ h))))
    (lt-suc-cases i k l)
