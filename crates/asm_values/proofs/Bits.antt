-- A kind is in a format that is read back exactly where its bit is set.
-- Assumes nothing.
use Prim.Native.Nat.{ℕ, zero, suc, ◌+◌, ◌<◌, ◌≤◌}
use mathlib.Core.Path.{◌≡◌, refl, sym, ◌∙◌}
use mathlib.Core.Bool.{Bool, true, false}
use mathlib.Core.List.{List, [], ◌∷◌}
use native.Mathlib.Omega.{arith}
use borrow.Author.Tests.{eq-eqb, eqb-false, eqb-true, ne_eqb}
use lib.Dec.{eqb}
use Rattle.base.specs.Test.{◌or◌, if}
use Rattle.base.specs.Lists.{member}
use Rattle.asm_values.specs.Read.{has_bit, kinds_from}

module _ (w j : ℕ) where
  member-past : (m k : ℕ) → j < k → member j (kinds_from w m k) ≡ false
  unfolding kinds_from member ◌or◌ if
  member-past zero k h = refl
  member-past (suc m) k h = go (member-past m (suc k)) (has_bit w k)
    where
      go : (j < suc k → member j (kinds_from w m (suc k)) ≡ false) → (b : Bool)
          → member j (if b (k ∷ kinds_from w m (suc k)) (kinds_from w m (suc k))) ≡ false
      go ih true = rw (ne_eqb j k (λ e. omega arith)) (ih (omega arith))
      go ih false = ih (omega arith)

  member-from : (m k : ℕ) → k ≤ j → j < k + m → member j (kinds_from w m k) ≡ has_bit w j
  unfolding kinds_from member ◌or◌ if
  member-from zero k h g = absurd (omega arith)
  member-from (suc m) k h g = go (member-from m (suc k)) (member-past m (suc k)) (eqb j k) refl (has_bit w k) refl
    where
      go : (suc k ≤ j → j < suc k + m → member j (kinds_from w m (suc k)) ≡ has_bit w j)
          → (j < suc k → member j (kinds_from w m (suc k)) ≡ false)
          → (a : Bool) → eqb j k ≡ a → (b : Bool) → has_bit w k ≡ b
          → member j (if b (k ∷ kinds_from w m (suc k)) (kinds_from w m (suc k))) ≡ has_bit w j
      go ih past true p true q = let e : j ≡ k = eqb-true j k p in rw (p, e, q) refl
      go ih past true p false q = let e : j ≡ k = eqb-true j k p in past (omega arith) ∙ sym (rw (e, q) refl)
      go ih past false p true q = let e : j ≡ k → ⊥ = eqb-false j k p in rw p (ih (omega arith) (omega arith))
      go ih past false p false q = let e : j ≡ k → ⊥ = eqb-false j k p in ih (omega arith) (omega arith)

  pub kind-bit : j < 24 → member j (kinds_from w 24 0) ≡ has_bit w j
  kind-bit h = member-from 24 0 (omega arith) (omega arith)
