-- Laws of real answers: by comparison with the infinities, and by the bits of a word pair.
-- Assumes nothing.
use Prim.Native.Nat.{ℕ, zero, suc, ◌+◌, ◌*◌, ◌/◌, ◌%◌, ◌^◌, ◌-◌, ◌<◌, ◌≤◌}
use mathlib.Core.Path.{◌≡◌, refl, sym, subst}
use mathlib.Core.Bool.{Bool, true, false, not, cond}
use native.Mathlib.Omega.{arith}
use lib.Dec.{T, eqb, ltb→lt, nltb→le, eqb→eq, lt→ltb, le→leb}
use lib.IntN.{ℤ}
use lib.Ieee.{Float, nan, inf, fin, binary64, prec, low, hid, lt, eq, is_nan, nan_bits, odd, of_fields, of_bits, to_bits, fits, in_float, neg, of_int, round}
use lib.Arith.{le→nltb}
use lib.Ieee.Bits.{nan_bits_above, to_bits-lt}
use lib.Ieee.Exact.{HasValue}
use lib.Ieee.Back.{round_whole}
use Rattle.words.specs.Words.{signed}
use Rattle.integers.proofs.Whole.{by-signed}
use Rattle.real_rules.specs.Real.{Real, value, overflow, answer, pair, real_of, finite_high, both, negated, proper, of_word}

-- between the infinities: a value; else overflow
pub answer-between : (x : Float) → lt (inf true) x ≡ true → lt x (inf false) ≡ true → answer x ≡ value x
unfolding lt
answer-between nan p q = absurd (subst T (sym p) tt)
answer-between (inf true) p q = absurd (subst T (sym p) tt)
answer-between (inf false) p q = absurd (subst T (sym q) tt)
answer-between (fin s m e) p q = refl

pub answer-below : (x : Float) → lt (inf true) x ≡ false → answer x ≡ overflow
unfolding lt
answer-below nan p = refl
answer-below (inf s) p = refl
answer-below (fin s m e) p = absurd (subst T p tt)

pub answer-above : (x : Float) → lt x (inf false) ≡ false → answer x ≡ overflow
unfolding lt
answer-above nan p = refl
answer-above (inf s) p = refl
answer-above (fin s m e) p = absurd (subst T p tt)

-- a pair by the exponent's field of its high word
pair-below : (lo hi : ℕ) → lo < 2 ^ 32 → hi % 2 ^ 31 < 2047 * 2 ^ 20 → pair lo hi % 2 ^ 63 ≤ 2047 * 2 ^ 52
pair-below lo hi l h = omega arith

pub pair-no-nan : (lo hi : ℕ) → lo < 2 ^ 32 → T (finite_high hi) → T (not (nan_bits binary64 (pair lo hi)))
pair-no-nan lo hi l h = rw (nan_bits_above binary64 (pair lo hi)) (le→nltb (2047 * 2 ^ 52) (pair lo hi % 2 ^ 63) (pair-below lo hi l (ltb→lt (hi % 2 ^ 31) (2047 * 2 ^ 20) h)))

pub answer-odd : (d : ℕ) (s : Bool) (q k l : ℕ) → answer (odd d s q k l) ≡ value (odd d s q k l)
unfolding odd
answer-odd d s zero k l = refl
answer-odd d s (suc q) k l = refl

pub by_cond : {A : Type 0} (P : A → Type 0) (b : Bool) (x y : A) → (T b → P x) → (T (not b) → P y) → P (cond b x y)
by_cond P true x y f g = f tt
by_cond P false x y f g = g tt

pub fields-finite : (s : Bool) (x t : ℕ) → x < 2047 → answer (of_fields binary64 s x t) ≡ value (of_fields binary64 s x t)
unfolding of_fields
fields-finite s zero t h = answer-odd (prec binary64) s t 0 (low binary64)
fields-finite s (suc x) t h = by_cond (λ (v : Float). answer v ≡ value v) (eqb (suc x) 2047) _ _ (λ e. absurd (unequal (suc x) h (eqb→eq (suc x) 2047 e))) (λ e. answer-odd (prec binary64) s (hid binary64 + t) x (low binary64))
  where
    unequal : (a : ℕ) → a < 2047 → a ≡ 2047 → ⊥
    unequal a p q = omega arith

pub fields-beyond : (s : Bool) (x t : ℕ) → x ≡ 2047 → answer (of_fields binary64 s x t) ≡ overflow
unfolding of_fields
fields-beyond s x t e = rw e (by_cond (λ (v : Float). answer v ≡ overflow) (eqb t 0) _ _ (λ h. refl) (λ h. refl))

high-finite : (lo hi : ℕ) → lo < 2 ^ 32 → hi % 2 ^ 31 < 2047 * 2 ^ 20 → pair lo hi % 2 ^ 63 / 2 ^ 52 < 2047
high-finite lo hi l h = omega arith

high-beyond : (lo hi : ℕ) → lo < 2 ^ 32 → hi < 2 ^ 32 → 2047 * 2 ^ 20 ≤ hi % 2 ^ 31 → pair lo hi % 2 ^ 63 / 2 ^ 52 ≡ 2047
high-beyond lo hi l h k = omega arith

pub pair-finite : (lo hi : ℕ) → lo < 2 ^ 32 → T (finite_high hi) → real_of lo hi ≡ value (of_bits binary64 (pair lo hi))
unfolding real_of of_bits
pair-finite lo hi l h = fields-finite _ _ _ (high-finite lo hi l (ltb→lt (hi % 2 ^ 31) (2047 * 2 ^ 20) h))

pub pair-beyond : (lo hi : ℕ) → lo < 2 ^ 32 → hi < 2 ^ 32 → T (not (finite_high hi)) → real_of lo hi ≡ overflow
unfolding real_of of_bits
pair-beyond lo hi l h k = fields-beyond _ _ _ (high-beyond lo hi l h (nltb→le (hi % 2 ^ 31) (2047 * 2 ^ 20) k))

-- an operation on two values
pub both_values : (f : Float → Float → Float) (a b : Real) (x y : Float) → a ≡ value x → b ≡ value y → both f a b ≡ answer (f x y)
both_values f a b x y p q = rw (p, q)

-- ITR is exact: every word's signed value is a whole number that the format holds without a gap
pub in-float : (w : ℕ) → w < 2 ^ 32 → T (in_float binary64 (signed w))
unfolding in_float
in-float w h = by-signed (λ (n : ℤ). T (in_float binary64 n)) w (λ e. le→leb w (2 ^ 53) (omega arith)) (λ e. lt→ltb (2 ^ 32 - 1 - w) (2 ^ 53) (omega arith))

-- the bits of a float that the format holds are 64
pub bits_below : (x : Float) → T (fits binary64 x) → to_bits binary64 x < 2 ^ 64
bits_below x h = to_bits-lt binary64 x h

-- every answer is proper
pub proper-answer : (x : Float) → T (proper (answer x))
unfolding is_nan
proper-answer nan = tt
proper-answer (inf s) = tt
proper-answer (fin s m e) = tt

pub proper-real : (lo hi : ℕ) → T (proper (real_of lo hi))
unfolding real_of
proper-real lo hi = proper-answer (of_bits binary64 (pair lo hi))

pub proper-both : (f : Float → Float → Float) (a b : Real) → T (proper (both f a b))
proper-both f (value x) (value y) = proper-answer (f x y)
proper-both f (value x) overflow = tt
proper-both f overflow b = tt

pub proper-negated : (a : Real) → T (proper a) → T (proper (negated a))
unfolding is_nan neg
proper-negated (value nan) h = h
proper-negated (value (inf s)) h = tt
proper-negated (value (fin s m e)) h = tt
proper-negated overflow h = tt

-- a whole number that the format holds without a gap is a finite value
finite-of : (x : Float) (s : Bool) (a c : ℕ) → HasValue x s a c → answer x ≡ value x
finite-of nan s a c v = absurd v
finite-of (inf t) s a c v = absurd v
finite-of (fin t m e) s a c v = refl

pub of-word-finite : (w : ℕ) → answer (of_int binary64 (signed w)) ≡ of_word w
unfolding of_int
of-word-finite w =
    by-signed (λ (n : ℤ). answer (of_int binary64 n) ≡ value (of_int binary64 n)) w
    (λ e. finite-of (round binary64 false w 1) false w 1 (round_whole binary64 false w (omega arith)))
    (λ e. finite-of (round binary64 true (suc (2 ^ 32 - 1 - w)) 1) true (suc (2 ^ 32 - 1 - w)) 1 (round_whole binary64 true (suc (2 ^ 32 - 1 - w)) (omega arith)))

pub proper-word : (w : ℕ) → T (proper (of_word w))
proper-word w = subst (λ (r : Real). T (proper r)) (of-word-finite w) (proper-answer (of_int binary64 (signed w)))

-- what equals itself is no NaN
pub self-equal : (x : Float) → eq x x ≡ true → T (not (is_nan x))
unfolding eq is_nan
self-equal nan e = subst T (sym e) tt
self-equal (inf s) e = tt
self-equal (fin s m e) q = tt
