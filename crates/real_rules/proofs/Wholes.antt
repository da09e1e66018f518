-- RTI by the bits of a word pair: the exponent's field and the digits give the whole part.
-- Assumes nothing.
use Prim.Native.Nat.{ℕ, zero, suc, ◌+◌, ◌*◌, ◌/◌, ◌%◌, ◌^◌, ◌-◌, ◌<◌, ◌≤◌}
use mathlib.Core.Path.{◌≡◌, refl, sym, ap, subst, ◌∙◌}
use mathlib.Core.Bool.{Bool, true, false}
use native.Mathlib.Nat.{div-one, zero-lt-suc, div-eq_of_lt, mul-div-mul_right, le-div_iff_mul-le, mul-le-mul}
use native.Mathlib.Omega.{arith}
use borrow.Author.Tests.{lt-ltb, le-ltb, ltb-true, ltb-false, le-leb, lt-leb, leb-true, leb-false}
use lib.Dec.{leb, ltb, eqb, eqb→eq}
use lib.IntN.{ℤ, pos, neg_ℤ}
use lib.Pow.{pow_pos, pow-add, pow_mono, shl_lt}
use lib.Ieee.{Float, nan, inf, fin, binary64, up, down, odd, of_fields, of_bits, of_int, round}
use lib.Ieee.Fits.{down_pos}
use lib.Ieee.Exact.{HasValue, odd_sign}
use lib.Ieee.Nearest.{div_same}
use lib.Ieee.Back.{round_whole}
use Rattle.base.specs.Test.{if}
use Rattle.words.specs.Words.{low, fits, signed}
use Rattle.integers.proofs.Whole.{by-signed, fits_signed, low_signed}
use Rattle.real_rules.specs.Real.{answer, pair, real_of, with_sign, cut, within, beyond, ranged, whole_of, of_word}
use Rattle.real_rules.proofs.Laws.{by_cond, answer-odd, fields-beyond}

cut-value : (x : Float) (s : Bool) (a c : ℕ) → 0 < c → HasValue x s a c → cut x ≡ with_sign s (a / c)
cut-value nan s a c p v = absurd v
cut-value (inf t) s a c p v = absurd v
cut-value (fin t m e) s a c p v = ap (λ (u : Bool). with_sign u (m * up e / down e)) v.0 ∙ ap (with_sign s) (div_same (m * up e) (down e) a c (down_pos e) p v.1)

cut-odd : (s : Bool) (q k : ℕ) → cut (odd 53 s q k 1074) ≡ with_sign s (q * 2 ^ k / 2 ^ 1074)
cut-odd s q k = cut-value (odd 53 s q k 1074) s (q * 2 ^ k) (2 ^ 1074) (pow_pos 1074) (odd_sign 53 s q k 1074)

-- the whole part of the fields
whole-odd : (s : Bool) (q k : ℕ) → whole_of (answer (odd 53 s q k 1074)) ≡ ranged (with_sign s (q * 2 ^ k / 2 ^ 1074))
whole-odd s q k = ap whole_of (answer-odd 53 s q k 1074) ∙ ap ranged (cut-odd s q k)

whole-suc : (s : Bool) (x t : ℕ) → suc x < 2047 → whole_of (answer (of_fields binary64 s (suc x) t)) ≡ ranged (with_sign s ((2 ^ 52 + t) * 2 ^ x / 2 ^ 1074))
unfolding of_fields
whole-suc s x t h =
    by_cond (λ (v : Float). whole_of (answer v) ≡ ranged (with_sign s ((2 ^ 52 + t) * 2 ^ x / 2 ^ 1074))) (eqb (suc x) 2047) _ _
    (λ e. absurd (unequal (suc x) h (eqb→eq (suc x) 2047 e))) (λ e. whole-odd s (2 ^ 52 + t) x)
  where
    unequal : (a : ℕ) → a < 2047 → a ≡ 2047 → ⊥
    unequal a p q = omega arith

-- below 1: no whole part
small : (q k : ℕ) → q < 2 ^ 53 → k ≤ 1021 → q * 2 ^ k / 2 ^ 1074 ≡ 0
small q k h l = div-eq_of_lt (less-than _ _ _ (shl_lt 53 k h) (pow_mono {i = 53 + k} {j = 1074} (omega arith)))
  where
    less-than : (a b c : ℕ) → a < b → b ≤ c → a < c
    less-than a b c p r = omega arith

pub fields-small : (s : Bool) (x t : ℕ) → x < 1023 → t < 2 ^ 52 → whole_of (answer (of_fields binary64 s x t)) ≡ ranged (with_sign s 0)
unfolding of_fields
fields-small s zero t h k = whole-odd s t 0 ∙ ap (λ (n : ℕ). ranged (with_sign s n)) (small t 0 (omega arith) (omega arith))
fields-small s (suc x) t h k = whole-suc s x t (omega arith) ∙ ap (λ (n : ℕ). ranged (with_sign s n)) (small (2 ^ 52 + t) x (omega arith) (omega arith))

-- from 1 to below 2^32: the digits, shifted
shifted : (q j x : ℕ) → j + x ≡ 1074 → q * 2 ^ x / 2 ^ 1074 ≡ q / 2 ^ j
shifted q j x e = ap (λ (n : ℕ). q * 2 ^ x / 2 ^ n) (sym e) ∙ ap (λ (n : ℕ). q * 2 ^ x / n) (pow-add 2 j x) ∙ mul-div-mul_right q (2 ^ j) (pow_pos x)

pub fields-shifted : (s : Bool) (x t : ℕ) → 1023 ≤ x → x < 1055 → whole_of (answer (of_fields binary64 s x t)) ≡ ranged (with_sign s ((2 ^ 52 + t) / 2 ^ (1075 - x)))
fields-shifted s zero t h k = absurd (none h)
  where
    none : 1023 ≤ 0 → ⊥
    none p = omega arith
fields-shifted s (suc x) t h k = whole-suc s x t (omega arith) ∙ ap (λ (n : ℕ). ranged (with_sign s n)) (shifted (2 ^ 52 + t) (1075 - suc x) x (omega arith))

-- from 2^32 on: out of range
large : (q x : ℕ) → 2 ^ 52 ≤ q → 1054 ≤ x → 2 ^ 32 ≤ q * 2 ^ x / 2 ^ 1074
large q x h k = (le-div_iff_mul-le {k = 2 ^ 1074} {x = 2 ^ 32} {y = q * 2 ^ x} (pow_pos 1074)).1 (subst (λ (n : ℕ). n ≤ q * 2 ^ x) (sym (pow-add 2 52 1054) ∙ pow-add 2 32 1074) (mul-le-mul h (pow_mono k)))

ranged-large : (s : Bool) (n : ℕ) → 2 ^ 32 ≤ n → ranged (with_sign s n) ≡ beyond
unfolding fits if
ranged-large false n h = rw (le-ltb n (2 ^ 31) (omega arith))
ranged-large true zero h = absurd (none h)
  where
    none : 2 ^ 32 ≤ 0 → ⊥
    none p = omega arith
ranged-large true (suc n) h = rw (le-ltb n (2 ^ 31) (omega arith))

pub fields-large : (s : Bool) (x t : ℕ) → 1055 ≤ x → x < 2048 → whole_of (answer (of_fields binary64 s x t)) ≡ beyond
fields-large s zero t h k = absurd (none h)
  where
    none : 1055 ≤ 0 → ⊥
    none p = omega arith
fields-large s (suc x) t h k = by_bool (ltb (suc x) 2047) refl
  where
    by_bool : (b : Bool) → ltb (suc x) 2047 ≡ b → whole_of (answer (of_fields binary64 s (suc x) t)) ≡ beyond
    by_bool true e = whole-suc s x t (ltb-true (suc x) 2047 e) ∙ ranged-large s _ (large (2 ^ 52 + t) x (omega arith) (omega arith))
    by_bool false e = ap whole_of (fields-beyond s (suc x) t (omega (arith, ltb-false (suc x) 2047 e)))

-- the whole part's word, by its sign
pub ranged-positive : (n : ℕ) → n < 2 ^ 31 → ranged (with_sign false n) ≡ within n
unfolding fits if
ranged-positive n h = rw (lt-ltb n (2 ^ 31) h) (ap within (omega arith))

pub ranged-over : (n : ℕ) → 2 ^ 31 ≤ n → ranged (with_sign false n) ≡ beyond
unfolding fits if
ranged-over n h = rw (le-ltb n (2 ^ 31) h)

pub ranged-negative : (n : ℕ) → n ≤ 2 ^ 31 → ranged (with_sign true n) ≡ within ((2 ^ 32 - n) % 2 ^ 32)
unfolding fits if
ranged-negative zero h = refl
ranged-negative (suc n) h = rw (lt-ltb n (2 ^ 31) (omega arith)) (ap within (omega arith))

pub ranged-under : (n : ℕ) → 2 ^ 31 < n → ranged (with_sign true n) ≡ beyond
unfolding fits if
ranged-under zero h = absurd (none h)
  where
    none : 2 ^ 31 < 0 → ⊥
    none p = omega arith
ranged-under (suc n) h = rw (le-ltb n (2 ^ 31) (omega arith))

-- the same with the sign as a test that has been made
pub ranged-by-positive : (s : Bool) (n : ℕ) → s ≡ false → n < 2 ^ 31 → ranged (with_sign s n) ≡ within n
ranged-by-positive s n e h = ap (λ (b : Bool). ranged (with_sign b n)) e ∙ ranged-positive n h

pub ranged-by-over : (s : Bool) (n : ℕ) → s ≡ false → 2 ^ 31 ≤ n → ranged (with_sign s n) ≡ beyond
ranged-by-over s n e h = ap (λ (b : Bool). ranged (with_sign b n)) e ∙ ranged-over n h

pub ranged-by-negative : (s : Bool) (n : ℕ) → s ≡ true → n ≤ 2 ^ 31 → ranged (with_sign s n) ≡ within ((2 ^ 32 - n) % 2 ^ 32)
ranged-by-negative s n e h = ap (λ (b : Bool). ranged (with_sign b n)) e ∙ ranged-negative n h

pub ranged-by-under : (s : Bool) (n : ℕ) → s ≡ true → 2 ^ 31 < n → ranged (with_sign s n) ≡ beyond
ranged-by-under s n e h = ap (λ (b : Bool). ranged (with_sign b n)) e ∙ ranged-under n h

-- the fields of a pair
field_of : (lo hi : ℕ) → lo < 2 ^ 32 → hi < 2 ^ 32 → pair lo hi % 2 ^ 63 / 2 ^ 52 ≡ hi / 2 ^ 20 % 2048
field_of lo hi l h = omega arith

digits_of : (lo hi : ℕ) → lo < 2 ^ 32 → hi < 2 ^ 32 → pair lo hi % 2 ^ 52 ≡ lo + hi % 2 ^ 20 * 2 ^ 32
digits_of lo hi l h = omega arith

sign_of : (lo hi : ℕ) → lo < 2 ^ 32 → hi < 2 ^ 32 → leb (2 ^ 63) (pair lo hi) ≡ leb (2 ^ 31) hi
sign_of lo hi l h = by_bool (leb (2 ^ 31) hi) refl
  where
    by_bool : (b : Bool) → leb (2 ^ 31) hi ≡ b → leb (2 ^ 63) (pair lo hi) ≡ b
    by_bool true e = le-leb (2 ^ 63) (pair lo hi) (omega (arith, leb-true (2 ^ 31) hi e))
    by_bool false e = lt-leb (2 ^ 63) (pair lo hi) (omega (arith, leb-false (2 ^ 31) hi e))

whole_fields : (lo hi : ℕ) → lo < 2 ^ 32 → hi < 2 ^ 32 → whole_of (real_of lo hi) ≡ whole_of (answer (of_fields binary64 (leb (2 ^ 31) hi) (hi / 2 ^ 20 % 2048) (lo + hi % 2 ^ 20 * 2 ^ 32)))
unfolding real_of of_bits
whole_fields lo hi l h =
    ap (λ (s : Bool). whole_of (answer (of_fields binary64 s (pair lo hi % 2 ^ 63 / 2 ^ 52) (pair lo hi % 2 ^ 52)))) (sign_of lo hi l h)
    ∙ ap (λ (x : ℕ). whole_of (answer (of_fields binary64 (leb (2 ^ 31) hi) x (pair lo hi % 2 ^ 52)))) (field_of lo hi l h)
    ∙ ap (λ (t : ℕ). whole_of (answer (of_fields binary64 (leb (2 ^ 31) hi) (hi / 2 ^ 20 % 2048) t))) (digits_of lo hi l h)

module _ (lo hi : ℕ) (l : lo < 2 ^ 32) (h : hi < 2 ^ 32) where
  pub whole-small : hi / 2 ^ 20 % 2048 < 1023 → whole_of (real_of lo hi) ≡ within 0
  unfolding fits if
  whole-small k = whole_fields lo hi l h ∙ fields-small _ _ _ k (omega arith) ∙ none (leb (2 ^ 31) hi)
    where
      none : (s : Bool) → ranged (with_sign s 0) ≡ within 0
      none true = refl
      none false = refl

  pub whole-shifted : 1023 ≤ hi / 2 ^ 20 % 2048 → hi / 2 ^ 20 % 2048 < 1055 → whole_of (real_of lo hi) ≡ ranged (with_sign (leb (2 ^ 31) hi) ((2 ^ 52 + (lo + hi % 2 ^ 20 * 2 ^ 32)) / 2 ^ (1075 - hi / 2 ^ 20 % 2048)))
  whole-shifted j k = whole_fields lo hi l h ∙ fields-shifted _ _ _ j k

  pub whole-large : 1055 ≤ hi / 2 ^ 20 % 2048 → whole_of (real_of lo hi) ≡ beyond
  whole-large k = whole_fields lo hi l h ∙ fields-large _ _ _ k (omega arith)

  -- the same, of an exponent and digits that have been worked out
  pub whole_by : (e d : ℕ) → e ≡ hi / 2 ^ 20 % 2048 → d ≡ 2 ^ 52 + (lo + hi % 2 ^ 20 * 2 ^ 32) → 1023 ≤ e → e < 1055 → ranged (with_sign (leb (2 ^ 31) hi) (d / 2 ^ (1075 - e))) ≡ whole_of (real_of lo hi)
  whole_by e d p q j k = rw (p, q) (sym (whole-shifted (subst (λ (x : ℕ). 1023 ≤ x) p j) (subst (λ (x : ℕ). x < 1055) p k)))

-- ITR loses nothing: the whole part of a word's float is the word
cut_word : (w : ℕ) → cut (of_int binary64 (signed w)) ≡ signed w
unfolding of_int if
cut_word w =
    by-signed (λ (n : ℤ). cut (of_int binary64 n) ≡ n) w
    (λ e. cut-value (round binary64 false w 1) false w 1 (zero-lt-suc 0) (round_whole binary64 false w (omega arith)) ∙ ap pos (div-one w))
    (λ e.
    let k = 2 ^ 32 - 1 - w in
    cut-value (round binary64 true (suc k) 1) true (suc k) 1 (zero-lt-suc 0) (round_whole binary64 true (suc k) (omega arith)) ∙ ap (λ (n : ℕ). neg_ℤ (pos n)) (div-one (suc k)))

pub itr-rti : (w : ℕ) → w < 2 ^ 32 → whole_of (of_word w) ≡ within w
unfolding if
itr-rti w h = ap ranged (cut_word w) ∙ ap (λ (b : Bool). if b (within (low (signed w))) beyond) (fits_signed w h) ∙ ap within (low_signed w h)
