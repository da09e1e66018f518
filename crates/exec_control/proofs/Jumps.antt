-- Registers and place operands by their offsets, the steps that jump, and CHK.
-- Assumes nothing.
use Prim.Native.Nat.{ℕ, zero, suc, ◌+◌, ◌-◌, ◌*◌, ◌<◌, ◌≤◌}
use mathlib.Core.Path.{◌≡◌, refl, sym, ap, ◌∙◌}
use mathlib.Core.Bool.{Bool}
use mathlib.Core.List.{List, []}
use native.Mathlib.Omega.{arith}
use lib.ListN.{length}
use borrow.Author.Tests.{lt-ltb, le-ltb}
use Rattle.base.specs.Test.{Ok, if}
use Rattle.base.specs.Lists.{◌at◌}
use Rattle.ops.specs.Class.{CHK}
use Rattle.ops.specs.Ops.{rows, checks}
use Rattle.rules.specs.Table.{entry_at, field, section5, target1, target3}
use Rattle.rules.specs.State.{State, Link}
use Rattle.rules.specs.Control.{Transfer, jump_to, jump_or, land}
use Rattle.exec_core.specs.Entry.{Entry, Sound, takes}
use Rattle.exec_core.specs.Views.{operand_at, place_at, toward, toward_or, way_of}
use Rattle.exec_core.specs.Seen.{place_of, seen, stepped, controls}
use Rattle.exec_calls.specs.Stands.{Stands}
use Rattle.exec_calls.proofs.Places.{entry-at, on-is}

-- the operands of an operation that reads no words
pub entry-bare : {t : List ℕ} {b n : ℕ} → Stands t b n → (f g : ℕ → Bool) (h : Bool) → Ok (takes f g h n rows) → Entry f g h t b []
entry-bare y f g h k = entry-at y f g h [] refl k

-- operand one's register by its offset
pub register-at : (t : List ℕ) (b : ℕ) → (operand_at t (b + 1)).reg ≡ t at (b + 2)
register-at t b = let e : b + 1 + 1 ≡ b + 2 = omega arith in ap (λ (i : ℕ). t at i) e

pub register-small : (t : List ℕ) (b : ℕ) {f : ℕ → Bool} → Sound f (operand_at t (b + 1)) → t at (b + 2) ≤ 6
register-small t b s = omega (arith, s.register, register-at t b)

-- a jump to a place operand that is there
module _ (t : List ℕ) (s : State) (z m : List ℕ) (ls : List Link) where
  pub jumps : (b x : ℕ) → 0 < x → seen (toward_or b x) z m ls ≡ stepped s (land t s (record { words = z; mem = m }) (jump_to x ls))
  jumps b zero h = absurd (omega arith)
  jumps b (suc q) h = refl

  pub jumps-or : (g : Transfer) (b x : ℕ) → 0 < x → seen (toward_or b x) z m ls ≡ stepped s (land t s (record { words = z; mem = m }) (jump_or g x ls))
  jumps-or g b zero h = absurd (omega arith)
  jumps-or g b (suc q) h = refl

-- place operands one and three by offsets
pub first_way : (t : List ℕ) (b p : ℕ) → b ≡ entry_at p → way_of t b 1 ≡ toward_or b (target1 t p)
unfolding way_of target1 field if
first_way t b p e = ap (λ (i : ℕ). toward_or b (place_at t (i + 1) (i + 3))) e

pub first-there : (t : List ℕ) (b p : ℕ) → b ≡ entry_at p → t at (b + 1) ≡ 6 → target1 t p ≡ suc (t at (b + 3))
unfolding target1 field if
first-there t b p e k = ap (λ (i : ℕ). place_at t (i + 1) (i + 3)) (sym e) ∙ rw k refl

pub third-way : (t : List ℕ) (b p : ℕ) → b ≡ entry_at p → way_of t b 3 ≡ toward_or b (target3 t p)
unfolding way_of target3 field if
third-way t b p e = ap (λ (i : ℕ). toward_or b (t at (i + 7))) e

pub third_at : (t : List ℕ) (b p : ℕ) → b ≡ entry_at p → t at (b + 7) ≡ target3 t p
unfolding target3 field
third_at t b p e = ap (λ (i : ℕ). t at (i + 7)) e

-- BRN and JMG
pub first_goes : {t : List ℕ} {b n : ℕ} → Stands t b n → t at (b + 1) ≡ 6 → (r : ℕ) → r ≡ way_of t b 1 → (s : State) (z m : List ℕ) (ls : List Link)
    → seen r z m ls ≡ stepped s (land t s (record { words = z; mem = m }) (jump_to (target1 t (place_of b)) ls))
first_goes {t} {b} y k r e s z m ls =
    ap (λ (x : ℕ). seen x z m ls) (e ∙ first_way t b (place_of b) y.starts)
    ∙ jumps t s z m ls b (target1 t (place_of b)) (omega (arith, first-there t b (place_of b) y.starts k))

-- CHK
module _ (t : List ℕ) (b : ℕ) (z m : List ℕ) (ls : List Link) (c x : ℕ) (e : x ≡ z at 3) where
  pub checks-below : x < 4 * (length m - 48) → (r : ℕ) → r ≡ toward (t at 6) → seen r z m ls ≡ controls t b c z m ls CHK checks
  unfolding section5 if
  checks-below h r q = rw (q, lt-ltb _ _ (rw e at h)) refl

  pub checks-on : 4 * (length m - 48) ≤ x → b ≡ entry_at (place_of b) → seen (b + 72) z m ls ≡ controls t b c z m ls CHK checks
  unfolding if
  checks-on h q = rw (le-ltb _ _ (rw e at h)) (ap (λ (r : ℕ). seen r z m ls) (on-is b (place_of b) q))
