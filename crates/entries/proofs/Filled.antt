-- A list that is filled place by place with the values of a function.
-- Assumes nothing.
use Prim.Native.Nat.{ℕ, ◌+◌, ◌<◌, ◌≤◌}
use mathlib.Core.Path.{◌≡◌, ◌∙◌}
use mathlib.Core.List.{List}
use mathlib.Core.Logic.{◌⊎◌, ⊎_elim, ◌≢◌}
use native.Mathlib.Omega.{arith}
use lib.ListN.{length, get_or, set}
use lib.Seq.{get_or-set_same, get_or-set_other}
use Rattle.rules.proofs.Facts.{lt-suc-cases}

module _ (f : ℕ → ℕ) (l : List ℕ) (p v : ℕ) (h : p < length l) (e : v ≡ f p) (g : (q : ℕ) → q < p → get_or l q 0 ≡ f q) where
  pub filled-last : (q : ℕ) → q ≤ p → get_or (set l p v) q 0 ≡ f q
  filled-last q k =
      ⊎_elim
      (λ (a : q < p). let n : q ≢ p = omega arith in get_or-set_other l p q v 0 n ∙ g q a)
      (λ (a : q ≡ p). rw a (get_or-set_same l p v 0 h ∙ e))
      (lt-suc-cases q p (omega arith))

  pub filled_more : (q : ℕ) → q < p + 1 → get_or (set l p v) q 0 ≡ f q
  filled_more q k = filled-last q (omega arith)
