-- Entries: the place of an ENT by the value of its label, in the terms of the code, and the value that an LEI takes.
-- Assumes nothing.
use Prim.Native.Nat.{ℕ, zero, suc, ◌+◌, ◌*◌, ◌-◌, ◌/◌, ◌%◌, ◌<◌, ◌≤◌}
use mathlib.Core.Path.{◌≡◌, refl, sym, ap, subst, ◌∙◌}
use mathlib.Core.List.{List}
use native.Mathlib.Omega.{arith}
use lib.Dec.{eqb}
use lib.ListN.{length, set}
use borrow.Author.Tests.{ne_eqb}
use Rattle.base.specs.Test.{Ok, if}
use Rattle.base.specs.Lists.{◌at◌}
use Rattle.base.proofs.Bool.{and_l, and_r, and_i, by-if, eq-ok, failed, if-true, ok-eq, passed, true-ok}
use Rattle.ops.specs.Class.{Class, ENT, executes, is}
use Rattle.ops.specs.Ops.{LEI, class_in, rows}
use Rattle.ops.proofs.Numbers as Numbers
use Rattle.rules.specs.Number.{no_entry}
use Rattle.rules.specs.Table.{class_at, entry_of, entry_place, field, is_entry, size, value}
use Rattle.rules.specs.Check.{table_ok}
use Rattle.rules.specs.Effect.{done, trap}
use Rattle.rules.specs.Exec.{lei_by, lei_of}
use Rattle.rules.specs.State.{State, Link}
use Rattle.rules.specs.Control.{halt, jump_or, land}
use Rattle.rules.proofs.Exits.{EntryOk, entry-ok}
use Rattle.rules.proofs.Facts.{executable-in-table}
use Rattle.bodies.proofs.Places.{class_of, class-past}
use Rattle.exec_core.specs.Views.{operand_at}
use Rattle.exec_core.specs.Seen.{seen, stepped}
use Rattle.std.specs.Prelude.{Option, Some, None}
use Rattle.exec_control.specs.Found.{found_of}
use Rattle.exec_control.specs.Shows.{Loads}
use Rattle.exec_calls.proofs.Places.{header}
use Rattle.exec_control.proofs.Jumps.{jumps-or, register-at}

module _ (t : List ℕ) (v : ℕ) where
  -- no ENT has the value
  none-by : (Ok (is_entry t v) → ⊥) → 0 ≡ entry_of t v
  unfolding entry_of
  none-by h = by-if (λ (x : ℕ). 0 ≡ x) _ _ _ (λ e. absurd (h (true-ok _ e))) (λ _. refl)

  pub entry-below : v < 1073741824 → 0 ≡ entry_of t v
  unfolding is_entry
  entry-below h = none-by (λ o. let e = ok-eq v _ (and_l _ _ o) in omega arith)

  module _ (a : ℕ) (e : a ≡ v - 1073741824) (above : 1073741824 ≤ v) where
    pub entry-unaligned : (a % 4 ≡ 0 → ⊥) → 0 ≡ entry_of t v
    unfolding is_entry entry_place
    entry-unaligned h = none-by (λ o. let k = ok-eq v _ (and_l _ _ o) in h (rw e (omega arith)))

    module _ (q : ℕ) (d : q ≡ a / 4) where
      place_is : entry_place v ≡ q
      unfolding entry_place
      place_is = sym (d ∙ ap (λ (x : ℕ). x / 4) e)

      pub entry_past : size t ≤ q → 0 ≡ entry_of t v
      unfolding is_entry
      entry_past h = none-by (λ o. failed (rw (place_is, class-past t q h) at (and_r _ _ o)))

      pub entry_other : q < size t → (t at (8 + 8 * q) ≡ 106 → ⊥) → 0 ≡ entry_of t v
      unfolding is_entry
      entry_other h k = none-by (λ o. k (Numbers.number-of (t at (8 + 8 * q)) (executes ENT) passed (rw (place_is, class_of t q h) at (and_r _ _ o))))

      pub entry_found : a % 4 ≡ 0 → q < size t → t at (8 + 8 * q) ≡ 106 → suc q ≡ entry_of t v
      unfolding entry_of is_entry
      entry_found m h k =
          sym
          (if-true (is_entry t v) _ 0
          (and_i _ _ (eq-ok v (1073741824 + 4 * entry_place v) (rw place_is (omega arith)))
          (subst (λ (c : Class). Ok (is c (executes ENT))) (sym (ap (class_at t) place_is ∙ class_of t q h ∙ ap (λ (x : ℕ). class_in x rows) k ∙ Numbers.class_of (executes ENT) passed)) passed))
          ∙ ap suc place_is)

-- an entry stands in the table
few-by : (t : List ℕ) (ok : Ok (table_ok t)) (x : ℕ) → EntryOk t ok x → x ≤ size t
few-by t ok zero h = omega arith
few-by t ok (suc q) h = omega (arith, executable-in-table t q h.0)

pub record Listed (t : List ℕ) (q : ℕ) : Type 0 where
  pub few : q < 1024
  pub inside : 8 * q + 16 ≤ length t

pub entry-few : (t : List ℕ) → Ok (table_ok t) → (v q : ℕ) {p : Option ℕ} → found_of p ≡ entry_of t v → p ≡ Some q → Listed t q
unfolding size
entry-few t ok v q f k =
    let e : suc q ≤ t at 0 = subst (λ (y : ℕ). y ≤ t at 0) (sym f ∙ ap found_of k) (few-by t ok (entry_of t v) (entry-ok t ok v)) in
    let h = header t ok in
    record { few = omega (arith, e, h.few); inside = omega (arith, e, h.long) }

-- LEI by the register r, whose word is the label of the entry q
lei-is : (t z m : List ℕ) (r q : ℕ)
    → lei_by t z m r (suc q) ≡ if (eqb (t at (8 + 8 * q + 1)) 1) (done (set z r (t at (8 + 8 * q + 3))) m 0) (trap no_entry)
unfolding field value
lei-is t z m r q = refl

module _ (t z : List ℕ) (b x : ℕ) (reg : x ≡ t at (b + 2)) (p : Option ℕ) (found : found_of p ≡ entry_of t (z at x)) where
  effect_is : (m : List ℕ) → lei_of t z m (operand_at t (b + 1)) ≡ lei_by t z m x (found_of p)
  unfolding lei_of
  effect_is m = rw (register-at t b, ← reg, ← found) refl

  pub lei-missing : p ≡ None → Loads 24 z t b z LEI
  lei-missing h c m = rw (effect_is m, h) refl

  pub lei-unvalued : {q : ℕ} → p ≡ Some q → (t at (8 + 8 * q + 1) ≡ 1 → ⊥) → Loads 24 z t b z LEI
  unfolding if
  lei-unvalued {q} h k c m = rw (effect_is m, h, lei-is t z m x q, ne_eqb _ 1 k) refl

  pub lei-loads : {q : ℕ} → p ≡ Some q → t at (8 + 8 * q + 1) ≡ 1 → Loads (b + 72) (set z x (t at (8 + 8 * q + 3))) t b z LEI
  unfolding if
  lei-loads {q} h k c m = rw (effect_is m, h, lei-is t z m x q, k) refl

-- BRI to the entry q
pub bri-goes : (t : List ℕ) (s : State) (z m : List ℕ) (ls : List Link) (b q : ℕ)
    → seen (8 * q + 72) z m ls ≡ stepped s (land t s (record { words = z; mem = m }) (jump_or (halt no_entry) (suc q) ls))
bri-goes t s z m ls b q = jumps-or t s z m ls (halt no_entry) b (suc q) (omega arith)
