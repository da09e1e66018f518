-- A result that is accumulated; decimal digits: the test of a digit, ten times a word less a digit, and the quotient and remainder of a word by ten. Numbers pass in 64 bits.
-- Assumes nothing.
use Prim.Native.Nat.{ℕ, zero, suc, ◌*◌, ◌-◌, ◌%◌, ◌^◌, ◌<◌, ◌≤◌}
use mathlib.Core.Path.{◌≡◌, refl, sym, ap, subst, ◌∙◌}
use mathlib.Core.Bool.{Bool, true, false}
use mathlib.Core.List.{List}
use native.Mathlib.Nat.{mod-lt}
use native.Mathlib.Omega.{arith}
use lib.Dec.{ltb}
use lib.IntN.{ℤ, pos, negsuc, neg_ℤ, ◌-ℤ◌, ◌*ℤ◌}
use lib.Signed.{mag, lt_z, quot_z, rem_z, mag_rem}
use borrow.Author.Tests.{lt-ltb, ltb-false}
use mir.Syntax.{w64}
use mir.Val.{to_z, of_z, SFits}
use mir.Facts.{to_z-of_z, to_z_pos}
use Rattle.base.specs.Test.{◌or◌}
use Rattle.ops.specs.Machine.{ch_d0, ch_d9}
use Rattle.words.specs.Words.{signed, low, fits, positive}
use Rattle.rules.specs.Exec.{accumulated}
use Rattle.integers.proofs.Whole.{signed-pos, mag-signed, positive-is, signed_low, mag-add, mag-neg}

-- an accumulated number, passed in 64 bits
pub accumulated-by : {r n : ℤ} {y : List ℕ} (z : List ℕ) → y ≡ accumulated (to_z w64 (of_z w64 r)) z → SFits w64 r → r ≡ n → y ≡ accumulated n z
accumulated-by z e s h = e ∙ ap (λ (x : ℤ). accumulated x z) (to_z-of_z {w = w64} s ∙ h)

-- ten as a word
signed-ten : signed 10 ≡ pos 10
signed-ten = signed-pos 10 (omega arith)

-- what CVM does not refuse is a digit
digit-by : (p q r : Bool) → (p or q or r) ≡ false → q ≡ false
unfolding ◌or◌
digit-by true q r e = let x : ◌≡◌ {A = ℕ} 0 1 = cc in absurd (omega arith)
digit-by false true r e = e
digit-by false false r e = refl

pub digit-from : (a d : ℕ) → (positive a or ltb d ch_d0 or ltb ch_d9 d) ≡ false → ch_d0 ≤ d
digit-from a d e = ltb-false d ch_d0 (digit-by _ _ _ e)

-- ten times a word less a word has room in 64 bits
ten-room : (x : ℤ) → mag x < 2 ^ 31 → mag (x *ℤ pos 10) < 2 ^ 62
ten-room (pos a) h = omega arith
ten-room (negsuc a) h = omega (arith, mag-neg (2 ^ 61) (pos (suc a * 10)) (omega arith))

pub shifted-room : (a k : ℕ) → a < 2 ^ 32 → k < 2 ^ 32 → SFits w64 (signed a *ℤ pos 10 -ℤ pos k)
shifted-room a k h j =
    record { sfits = omega (arith, mag-add (2 ^ 62) (signed a *ℤ pos 10) (neg_ℤ (pos k)) (ten-room (signed a) (mag-signed a h)) (omega (arith, mag-neg (2 ^ 32) (pos k) j))) }

-- a word less a number is a word
pub less-room : (d x : ℕ) → d < 2 ^ 32 → d - x < 2 ^ 32
less-room d x h = omega (arith, h)

module _ (a k : ℕ) {r : ℤ} (h : a < 2 ^ 32) (j : k < 2 ^ 32) (s : SFits w64 r) (e : r ≡ signed a *ℤ signed 10) where
  shifted-is : to_z w64 (of_z w64 r) -ℤ to_z w64 k ≡ signed a *ℤ pos 10 -ℤ pos k
  shifted-is =
      ap (λ (x : ℤ). x -ℤ to_z w64 k) (to_z-of_z {w = w64} s ∙ e ∙ ap (λ (x : ℤ). signed a *ℤ x) signed-ten)
      ∙ ap (λ (x : ℤ). signed a *ℤ pos 10 -ℤ x) (to_z_pos w64 {n = k} (omega arith))

  pub shifted_fits : SFits w64 (to_z w64 (of_z w64 r) -ℤ to_z w64 k)
  shifted_fits = subst (λ (x : ℤ). SFits w64 x) (sym shifted-is) (shifted-room a k h j)

  pub shifted-value : to_z w64 (of_z w64 (to_z w64 (of_z w64 r) -ℤ to_z w64 k)) ≡ signed a *ℤ pos 10 -ℤ pos k
  shifted-value = ap (λ (x : ℤ). to_z w64 (of_z w64 x)) shifted-is ∙ to_z-of_z {w = w64} (shifted-room a k h j)

-- the last digit of a number that is not above 0
digit-small : (k : ℕ) → k < 10 → low (neg_ℤ (neg_ℤ (pos k))) < 10
digit-small zero h = omega arith
digit-small (suc k) h = omega arith

digit-of : (n : ℤ) → lt_z (pos 0) n ≡ false → low (neg_ℤ (rem_z n (pos 10))) < 10
digit-of (pos zero) e = omega arith
digit-of (pos (suc n)) e = absurd (omega (arith, ltb-false 0 (suc n) e))
digit-of (negsuc n) e = digit-small (suc n % 10) (mod-lt (suc n) (omega arith))

pub digit_lt : (a : ℕ) → a < 2 ^ 32 → positive a ≡ false → low (neg_ℤ (rem_z (signed a) (pos 10))) < 10
digit_lt a h e = digit-of (signed a) (sym (positive-is a h) ∙ e)

-- the remainder by ten is a word's value
pub rem-fits : (a : ℕ) → a < 2 ^ 32 → fits (rem_z (signed a) (pos 10)) ≡ true
unfolding fits
rem-fits a h = lt-ltb (mag (rem_z (signed a) (pos 10))) (2 ^ 31) (omega (arith, mag_rem (signed a) (pos 10), mag-signed a h))

pub quot-ten : (a : ℕ) → quot_z (signed a) (signed 10) ≡ quot_z (signed a) (pos 10)
quot-ten a = ap (λ (x : ℤ). quot_z (signed a) x) signed-ten

rem-ten : (a : ℕ) → rem_z (signed a) (signed 10) ≡ rem_z (signed a) (pos 10)
rem-ten a = ap (λ (x : ℤ). rem_z (signed a) x) signed-ten

-- the remainder r as a word x, and its negation s as a word y
pub digit-is : (a : ℕ) {r s : ℤ} {x y : ℕ} → a < 2 ^ 32 → SFits w64 r → r ≡ rem_z (signed a) (signed 10) → x ≡ low (to_z w64 (of_z w64 r)) → SFits w64 s → s ≡ neg_ℤ (signed x) → y ≡ low (to_z w64 (of_z w64 s)) → y ≡ low (neg_ℤ (rem_z (signed a) (pos 10)))
digit-is a {x = x} h f e g f' e' g' =
    g' ∙ ap low (to_z-of_z {w = w64} f' ∙ e' ∙ ap neg_ℤ (ap signed (g ∙ ap low (to_z-of_z {w = w64} f ∙ e ∙ rem-ten a)) ∙ signed_low (rem_z (signed a) (pos 10)) (rem-fits a h)))
