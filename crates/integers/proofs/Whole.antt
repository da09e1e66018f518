-- Words and whole numbers: the signed view and the low 32 bits undo each other, the low bits of a sum are the wrapped sum,
-- and the magnitude of sums, products and quotients is bounded.
-- Assumes nothing.
use Prim.Native.Nat.{ℕ, zero, suc, ◌+◌, ◌*◌, ◌-◌, ◌/◌, ◌%◌, ◌^◌, ◌≤◌, ◌<◌, suc-le-suc, zero-le}
use mathlib.Core.Path.{◌≡◌, refl, sym, ap, ◌∙◌}
use mathlib.Core.Bool.{Bool, true, false, cond, ◌&&◌}
use native.Mathlib.Nat.{mod-eq_of_lt, le_of_lt, le-suc, le_trans, mul-le-mul, div-le_self}
use native.Mathlib.Omega.{arith}
use lib.Dec.{ltb, leb, leb-suc-suc, eqb-suc-zero}
use lib.IntN.{ℤ, pos, negsuc, neg_ℤ, sub_ℕ, ◌+ℤ◌, ◌-ℤ◌, ◌*ℤ◌}
use lib.Signed.{mag, lt_z, le_z, quot_z}
use borrow.Author.Tests.{lt-ltb, le-ltb, ltb-true, ltb-false}
use Rattle.base.specs.Test.{if}
use Rattle.base.proofs.Bool.{by-if}
use Rattle.words.specs.Words.{signed, low, fits, positive, plus, less}

pub signed-pos : (w : ℕ) → w < 2 ^ 31 → signed w ≡ pos w
unfolding signed if
signed-pos w h = rw (lt-ltb w (2 ^ 31) h)

pub signed-neg : (w : ℕ) → 2 ^ 31 ≤ w → signed w ≡ negsuc (2 ^ 32 - 1 - w)
unfolding signed if
signed-neg w h = rw (le-ltb w (2 ^ 31) h)

-- what holds of both readings of a word holds of its signed view
pub by-signed : (P : ℤ → Type 0) (w : ℕ) → (w < 2 ^ 31 → P (pos w))
    → (2 ^ 31 ≤ w → P (negsuc (2 ^ 32 - 1 - w))) → P (signed w)
unfolding signed
by-signed P w f g =
    by-if P (ltb w (2 ^ 31)) (pos w) (negsuc (2 ^ 32 - 1 - w)) (λ e. f (ltb-true w (2 ^ 31) e))
    (λ e. g (ltb-false w (2 ^ 31) e))

pub low_signed : (w : ℕ) → w < 2 ^ 32 → low (signed w) ≡ w
low_signed w h = by-signed (λ (z : ℤ). low z ≡ w) w (λ e. omega arith) (λ e. omega arith)

pub mag-signed : (w : ℕ) → w < 2 ^ 32 → mag (signed w) < 2 ^ 31
mag-signed w h = by-signed (λ (z : ℤ). mag z < 2 ^ 31) w (λ e. e) (λ e. omega arith)

pub fits_signed : (w : ℕ) → w < 2 ^ 32 → fits (signed w) ≡ true
unfolding fits
fits_signed w h = lt-ltb (mag (signed w)) (2 ^ 31) (mag-signed w h)

pub fits-mag : (n : ℤ) → fits n ≡ true → mag n < 2 ^ 31
unfolding fits
fits-mag n e = ltb-true (mag n) (2 ^ 31) e

-- the test of a range that computes
pub fits-is : (n : ℤ) → fits n ≡ (le_z (negsuc (2 ^ 31 - 1)) n && lt_z n (pos (2 ^ 31)))
unfolding fits
fits-is (pos n) = refl
fits-is (negsuc n) = leb-suc-suc n (2 ^ 31 - 1) ∙ sym (and-true (leb n (2 ^ 31 - 1)))
  where
    and-true : (t : Bool) → (t && true) ≡ t
    and-true true = refl
    and-true false = refl

pub positive-is : (w : ℕ) → w < 2 ^ 32 → positive w ≡ lt_z (pos 0) (signed w)
unfolding positive if
positive-is zero h = ap (lt_z (pos 0)) (sym (signed-pos 0 (omega arith)))
positive-is (suc w) h =
    rw (eqb-suc-zero w)
    (by-signed (λ (z : ℤ). ltb (suc w) (2 ^ 31) ≡ lt_z (pos 0) z) (suc w)
    (λ e. lt-ltb (suc w) (2 ^ 31) e ∙ sym (lt-ltb 0 (suc w) (omega arith)))
    (λ e. le-ltb (suc w) (2 ^ 31) e))

wide : (n : ℕ) → n < 2 ^ 31 → n < 2 ^ 32
wide n h = omega arith

upper : (n : ℕ) → n < 2 ^ 31 → 2 ^ 31 ≤ 2 ^ 32 - 1 - n % 2 ^ 32
upper n h = omega arith

back : (n : ℕ) → n < 2 ^ 31 → 2 ^ 32 - 1 - (2 ^ 32 - 1 - n % 2 ^ 32) ≡ n
back n h = omega arith

pub signed_low : (n : ℤ) → fits n ≡ true → signed (low n) ≡ n
signed_low n e = kept n (fits-mag n e)
  where
    kept : (n : ℤ) → mag n < 2 ^ 31 → signed (low n) ≡ n
    kept (pos n) h = ap signed (mod-eq_of_lt (wide n h)) ∙ signed-pos n h
    kept (negsuc n) h = signed-neg (2 ^ 32 - 1 - n % 2 ^ 32) (upper n h) ∙ ap negsuc (back n h)

pub low-lt : (n : ℤ) → low n < 2 ^ 32
low-lt (pos n) = omega arith
low-lt (negsuc n) = omega arith

-- the difference of two naturals, by the order
pub by-sub : (P : ℤ → Type 0) (a b : ℕ) → (a < b → P (negsuc (b - suc a))) → (b ≤ a → P (pos (a - b))) → P (sub_ℕ a b)
by-sub P a b f g = cases (ltb a b) (λ e. f (ltb-true a b e)) (λ e. g (ltb-false a b e))
  where
    cases : (c : Bool) → (c ≡ true → P (negsuc (b - suc a))) → (c ≡ false → P (pos (a - b)))
        → P (cond c (negsuc (b - suc a)) (pos (a - b)))
    cases true f g = f refl
    cases false f g = g refl

pub low-add : (x y : ℤ) → low (x +ℤ y) ≡ plus (low x) (low y)
low-add (pos a) (pos b) = omega arith
low-add (pos a) (negsuc b) =
    by-sub (λ (z : ℤ). low z ≡ plus (low (pos a)) (low (negsuc b))) a (suc b) (λ e. omega arith) (λ e. omega arith)
low-add (negsuc a) (pos b) =
    by-sub (λ (z : ℤ). low z ≡ plus (low (negsuc a)) (low (pos b))) b (suc a) (λ e. omega arith) (λ e. omega arith)
low-add (negsuc a) (negsuc b) = omega arith

pub low-neg : (x : ℤ) → low (neg_ℤ x) ≡ less 0 (low x)
low-neg (pos zero) = refl
low-neg (pos (suc n)) = omega arith
low-neg (negsuc n) = omega arith

pub low-sub : (x y : ℤ) → low (x -ℤ y) ≡ less (low x) (low y)
low-sub x y = low-add x (neg_ℤ y) ∙ ap (plus (low x)) (low-neg y) ∙ joined (low x) (low y)
  where
    joined : (a b : ℕ) → plus a (less 0 b) ≡ less a b
    joined a b = omega arith

mag-neg-pos : (r : ℕ) → mag (neg_ℤ (pos r)) ≤ r
mag-neg-pos zero = zero-le
mag-neg-pos (suc r) = le-suc r

-- bounds of sums, products and quotients of numbers whose magnitude is below m
module _ (m : ℕ) where
  pub mag-add : (x y : ℤ) → mag x < m → mag y < m → mag (x +ℤ y) < m + m
  mag-add (pos a) (pos b) h k = omega arith
  mag-add (pos a) (negsuc b) h k =
      by-sub (λ (z : ℤ). mag z < m + m) a (suc b) (λ e. omega arith) (λ e. omega arith)
  mag-add (negsuc a) (pos b) h k =
      by-sub (λ (z : ℤ). mag z < m + m) b (suc a) (λ e. omega arith) (λ e. omega arith)
  mag-add (negsuc a) (negsuc b) h k = omega arith

  pub mag-neg : (x : ℤ) → mag x < m → mag (neg_ℤ x) < suc m
  mag-neg (pos zero) h = suc-le-suc zero-le
  mag-neg (pos (suc n)) h = omega arith
  mag-neg (negsuc n) h = suc-le-suc h

  pub mag-mul : (x y : ℤ) → mag x < m → mag y < m → mag (x *ℤ y) < suc (m * m)
  mag-mul (pos a) (pos b) h k = suc-le-suc (mul-le-mul (le_of_lt h) (le_of_lt k))
  mag-mul (pos a) (negsuc b) h k = suc-le-suc (le_trans (mag-neg-pos (a * suc b)) (mul-le-mul (le_of_lt h) k))
  mag-mul (negsuc a) (pos b) h k = suc-le-suc (le_trans (mag-neg-pos (suc a * b)) (mul-le-mul h (le_of_lt k)))
  mag-mul (negsuc a) (negsuc b) h k = suc-le-suc (mul-le-mul h k)

  pub mag-quot : (x y : ℤ) → mag x < m → mag (quot_z x y) < suc m
  mag-quot (pos a) (pos b) h = suc-le-suc (le_trans (div-le_self a b) (le_of_lt h))
  mag-quot (pos a) (negsuc b) h =
      suc-le-suc (le_trans (mag-neg-pos (a / suc b)) (le_trans (div-le_self a (suc b)) (le_of_lt h)))
  mag-quot (negsuc a) (pos b) h = suc-le-suc (le_trans (mag-neg-pos (suc a / b)) (le_trans (div-le_self (suc a) b) h))
  mag-quot (negsuc a) (negsuc b) h = suc-le-suc (le_trans (div-le_self (suc a) (suc b)) h)
