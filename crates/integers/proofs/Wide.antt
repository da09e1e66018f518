-- Words as the machine's signed numbers of 64 bits: what its operations ask and what they give.
-- Assumes nothing.
use Prim.Native.Nat.{ℕ, suc, ◌-◌, ◌%◌, ◌^◌, ◌<◌}
use mathlib.Core.Path.{◌≡◌, refl, sym, ap, ◌∙◌, subst}
use mathlib.Core.Bool.{true, false, false≢true}
use native.Mathlib.Nat.{le-suc, le_trans, div-zero, mod-zero}
use native.Mathlib.Omega.{arith}
use lib.Bits.{bit_and, and_mask}
use lib.IntN.{ℤ, pos, negsuc, neg_ℤ, ◌+ℤ◌, ◌-ℤ◌, ◌*ℤ◌, +ℤ_idl}
use lib.Signed.{mag, lt_z, quot_z, rem_z, mag_rem}
use mir.Syntax.{w64}
use mir.Val.{to_z, of_z, SFits}
use mir.Facts.{to_z_pos, to_z-of_z}
use borrow.Author.Tests.{lt-ltb, le-ltb, ltb-true, ltb-false}
use Rattle.words.specs.Words.{signed, low, fits, plus}
use Rattle.integers.proofs.Whole.{signed-pos, signed-neg, by-signed, by-sub, mag-signed, mag-add, mag-neg, mag-mul, mag-quot}

pub wide-pos : (w : ℕ) → w < 2 ^ 32 → to_z w64 w ≡ pos w
wide-pos w h = to_z_pos w64 (omega arith)

-- the low 32 of 64 bits
pub low_mask : (x : ℕ) → to_z w64 (bit_and x (2 ^ 32 - 1)) ≡ pos (x % 2 ^ 32)
low_mask x = ap (to_z w64) (and_mask x 32) ∙ wide-pos (x % 2 ^ 32) (omega arith)

pub low_bits : (n : ℤ) → mag n < 2 ^ 63 → of_z w64 n % 2 ^ 32 ≡ low n
low_bits (pos n) h = refl
low_bits (negsuc n) h = omega arith

-- the range of a word, below its least value and from there on
pub fits_below : (n : ℤ) → lt_z n (negsuc (2 ^ 31 - 1)) ≡ true → false ≡ fits n
unfolding fits
fits_below (pos n) e = absurd (false≢true e)
fits_below (negsuc n) e = sym (le-ltb n (2 ^ 31) (omega (arith, ltb-true (2 ^ 31 - 1) n e)))

pub fits-from : (n : ℤ) → lt_z n (negsuc (2 ^ 31 - 1)) ≡ false → lt_z n (pos (2 ^ 31)) ≡ fits n
unfolding fits
fits-from (pos n) e = refl
fits-from (negsuc n) e = sym (lt-ltb n (2 ^ 31) (omega (arith, ltb-false (2 ^ 31 - 1) n e)))

-- a word's signed value, back from its bits
pub signed_back : (w : ℕ) {r : ℤ} → w < 2 ^ 32 → r ≡ signed w → to_z w64 (of_z w64 r) ≡ signed w
signed_back w h e =
    ap (λ (z : ℤ). to_z w64 (of_z w64 z)) e ∙ to_z-of_z {w = w64} (record { sfits = omega (arith, mag-signed w h) })

-- a word moved up by 2^31, wrapped, and back
module _ (w : ℕ) {r : ℕ} (h : w < 2 ^ 32) (e : r ≡ plus w (2 ^ 31)) where
  moved_back : pos (plus w (2 ^ 31)) -ℤ pos (2 ^ 31) ≡ signed w
  moved_back =
      by-sub (λ (z : ℤ). z ≡ signed w) (plus w (2 ^ 31)) (2 ^ 31) (λ k. ap negsuc (omega arith) ∙ sym (signed-neg w (omega arith)))
      (λ k. ap pos (omega arith) ∙ sym (signed-pos w (omega arith)))

  moved-is : to_z w64 r -ℤ pos (2 ^ 31) ≡ signed w
  moved-is = ap (λ (z : ℤ). z -ℤ pos (2 ^ 31)) (ap (to_z w64) e ∙ wide-pos (plus w (2 ^ 31)) (omega arith)) ∙ moved_back

  pub moved-fits : SFits w64 (to_z w64 r -ℤ pos (2 ^ 31))
  moved-fits = subst (λ (z : ℤ). SFits w64 z) (sym moved-is) (record { sfits = omega (arith, mag-signed w h) })

  pub moved_value : to_z w64 (of_z w64 (to_z w64 r -ℤ pos (2 ^ 31))) ≡ signed w
  moved_value = signed_back w h moved-is

-- an operation of two words, read as signed, whose results have room in 64 bits
module _ (op : ℤ → ℤ → ℤ) (room : (a b : ℕ) → a < 2 ^ 32 → b < 2 ^ 32 → SFits w64 (op (signed a) (signed b)))
    (a b : ℕ) {r s : ℤ} (ha : a < 2 ^ 32) (hb : b < 2 ^ 32) (e : r ≡ signed a) (f : s ≡ signed b) where
  pub machine-fits : SFits w64 (op (to_z w64 (of_z w64 r)) (to_z w64 (of_z w64 s)))
  machine-fits = rw (signed_back a ha e, signed_back b hb f) (room a b ha hb)

  pub machine-value : to_z w64 (of_z w64 (op (to_z w64 (of_z w64 r)) (to_z w64 (of_z w64 s)))) ≡ op (signed a) (signed b)
  machine-value = rw (signed_back a ha e, signed_back b hb f) (to_z-of_z (room a b ha hb))

-- the results that have room
module _ (a b : ℕ) (ha : a < 2 ^ 32) (hb : b < 2 ^ 32) where
  pub sum_room : SFits w64 (signed a +ℤ signed b)
  sum_room =
      record { sfits = omega (arith, mag-add (2 ^ 31) (signed a) (signed b) (mag-signed a ha) (mag-signed b hb)) }

  pub difference-room : SFits w64 (signed a -ℤ signed b)
  difference-room =
      record {
        sfits =
            omega (
              arith,
              mag-add (suc (2 ^ 31)) (signed a) (neg_ℤ (signed b)) (le_trans (mag-signed a ha) (le-suc (2 ^ 31)))
                  (mag-neg (2 ^ 31) (signed b) (mag-signed b hb)),
            );
      }

  pub product-room : SFits w64 (signed a *ℤ signed b)
  product-room =
      record { sfits = omega (arith, mag-mul (2 ^ 31) (signed a) (signed b) (mag-signed a ha) (mag-signed b hb)) }

  pub quotient-room : SFits w64 (quot_z (signed a) (signed b))
  quotient-room = record { sfits = omega (arith, mag-quot (2 ^ 31) (signed a) (signed b) (mag-signed a ha)) }

  pub remainder-room : SFits w64 (rem_z (signed a) (signed b))
  remainder-room = record { sfits = omega (arith, mag_rem (signed a) (signed b), mag-signed a ha) }

-- a word that is not 0 has bits that are not 0
pub bits_pos : (w : ℕ) {r : ℤ} → (w ≡ 0 → ⊥) → w < 2 ^ 32 → r ≡ signed w → 0 < of_z w64 r
bits_pos w n h e =
    subst (λ (z : ℤ). 0 < of_z w64 z) (sym e)
    (by-signed (λ (z : ℤ). 0 < of_z w64 z) w (λ k. omega arith) (λ k. omega arith))

-- zero as a word, and division by it
pub signed-zero : {w : ℕ} → w ≡ 0 → signed w ≡ pos 0
signed-zero e = ap signed e ∙ signed-pos 0 (omega arith)

pub zero-less : (w : ℕ) → signed 0 -ℤ signed w ≡ neg_ℤ (signed w)
zero-less w = ap (λ (z : ℤ). z -ℤ signed w) (signed-zero refl) ∙ +ℤ_idl (neg_ℤ (signed w))

pub quot-zero : (x : ℤ) → quot_z x (pos 0) ≡ pos 0
quot-zero (pos a) = ap pos (div-zero a)
quot-zero (negsuc a) = ap (λ (z : ℕ). neg_ℤ (pos z)) (div-zero (suc a))

pub rem-zero : (x : ℤ) → rem_z x (pos 0) ≡ x
rem-zero (pos a) = ap pos (mod-zero a)
rem-zero (negsuc a) = ap (λ (z : ℕ). neg_ℤ (pos z)) (mod-zero (suc a))
