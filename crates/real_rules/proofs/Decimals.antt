-- DRC: one division is the decimal number rounded once, and finite.
-- Assumes nothing.
use Prim.Native.Nat.{ℕ, zero, suc, ◌+◌, ◌*◌, ◌^◌, ◌<◌, ◌≤◌}
use mathlib.Core.Path.{◌≡◌, refl, sym, ap, subst, ◌∙◌}
use mathlib.Core.Bool.{Bool, true, false, not}
use native.Mathlib.Nat.{mul-pos, mul_comm, mul_assoc, mul_left_comm, mul-one, le_trans, zero-lt-suc}
use native.Mathlib.Omega.{arith}
use lib.Dec.{T, eqb, ltb, eqb→eq, lit≤, lit<}
use lib.IntN.{pos}
use lib.Ieee.{Float, nan, inf, fin, binary64, prec, emax, low, up, down, unlike, odd, units, round, div, of_int, neg, is_nan, lt, eq, le, fits}
use lib.Ieee.Fits.{round_is, down_pos, neg-fits, div-fits}
use lib.Ieee.Exact.{HasValue}
use lib.Ieee.Back.{round_whole}
use lib.Ieee.Scale.{round_same}
use lib.Ieee.Order.{round_mono}
use borrow.Author.Tests.{eq-eqb, ne_eqb}
use Rattle.base.proofs.Bool.{by-if}
use Rattle.base.specs.Test.{◌and◌, if}
use Rattle.real_rules.specs.Real.{answer, value, overflow, quotient, constant}
use Rattle.real_rules.proofs.Laws.{by_cond}

-- One division of exact numbers is one rounding of the fraction.
cross : (x y n p de dd : ℕ) → x ≡ n * de → y ≡ p * dd → x * dd * p ≡ n * (y * de)
cross x y n p de dd e h = rw (e, h) (simp (mul_assoc, mul_comm, mul_left_comm))

one_less : (a b : ℕ) → a * 1 ≡ b → a ≡ b
one_less a b e = omega arith

div-values : (x y : Float) (n p : ℕ) → 0 < p → HasValue x false n 1 → HasValue y false p 1 → div binary64 x y ≡ round binary64 false n p
unfolding div
div-values nan y n p h v w = absurd v
div-values (inf s) y n p h v w = absurd v
div-values (fin s m e) nan n p h v w = absurd w
div-values (fin s m e) (inf t) n p h v w = absurd w
div-values (fin s m e) (fin t q d) n p h v w =
    let Y : q * up d ≡ p * down d = one_less _ _ w.1 in
    let X : m * up e ≡ n * down e = one_less _ _ v.1 in
    let Y-pos : 0 < q * up d = subst (λ (z : ℕ). 0 < z) (sym Y) (mul-pos h (down_pos d)) in
    by_cond (λ (z : Float). z ≡ round binary64 false n p) (eqb q 0) _ _
    (λ z. absurd (none (q * up d) Y-pos (ap (λ (k : ℕ). k * up d) (eqb→eq q 0 z))))
    (λ z.
    ap (λ (b : Bool). round binary64 b (m * up e * down d) (q * up d * down e)) (signs s t v.0 w.0)
    ∙ round_same binary64 false (m * up e * down d) (q * up d * down e) n p (mul-pos Y-pos (down_pos e)) h (cross (m * up e) (q * up d) n p (down e) (down d) X Y))
  where
    none : (a : ℕ) → 0 < a → a ≡ 0 * up d → ⊥
    none a g k = omega arith

    signs : (s t : Bool) → s ≡ false → t ≡ false → unlike s t ≡ false
    signs s t a b = rw (a, b)

pub quotient-round : (n k : ℕ) → n ≤ 2 ^ 53 → 10 ^ k ≤ 2 ^ 53 → 0 < 10 ^ k → quotient n k ≡ round binary64 false n (10 ^ k)
unfolding quotient of_int
quotient-round n k h j p = div-values (round binary64 false n 1) (round binary64 false (10 ^ k) 1) n (10 ^ k) p (round_whole binary64 false n h) (round_whole binary64 false (10 ^ k) j)

-- It is finite: not above 2^53.
abbrev NoLess : Float → Type 0
NoLess nan = ⊥
NoLess (inf s) = s ≡ false
NoLess (fin s m e) = Unit {0}

odd-no-less : (d q k l : ℕ) → NoLess (odd d false q k l)
unfolding odd
odd-no-less d zero k l = tt
odd-no-less d (suc q) k l = tt

units-no-less : (q k : ℕ) → NoLess (units binary64 false q k)
unfolding units
units-no-less q k =
    by_cond NoLess (ltb (q * 2 ^ k) (2 ^ (low binary64 + suc (emax binary64)))) _ _ (λ t. odd-no-less (suc (prec binary64)) q k (low binary64)) (λ t. refl)

round-no-less : (a c : ℕ) → NoLess (round binary64 false a c)
round-no-less a c = subst NoLess (sym (round_is binary64 false a c)) (units-no-less _ _)

capped : (x y : Float) (n : ℕ) → NoLess x → HasValue y false n 1 → T (le x y) → answer x ≡ value x
unfolding le lt eq
capped nan y n s v h = absurd s
capped (inf true) y n s v h = absurd (subst (λ (b : Bool). T b) s tt)
capped (inf false) nan n s v h = absurd v
capped (inf false) (inf t) n s v h = absurd v
capped (inf false) (fin t m e) n s v h = absurd h
capped (fin t m e) y n s v h = refl

pub quotient-finite : (n k : ℕ) → n ≤ 2 ^ 53 → 10 ^ k ≤ 2 ^ 53 → 0 < 10 ^ k → answer (quotient n k) ≡ value (quotient n k)
quotient-finite n k h j p =
    subst (λ (x : Float). answer x ≡ value x) (sym (quotient-round n k h j p))
    (capped (round binary64 false n (10 ^ k)) (round binary64 false (2 ^ 53) 1) (2 ^ 53) (round-no-less n (10 ^ k)) (round_whole binary64 false (2 ^ 53) (lit≤ tt))
    (round_mono binary64 n (10 ^ k) (2 ^ 53) 1 p (zero-lt-suc 0) (le_trans (subst (λ (z : ℕ). z ≤ 2 ^ 53) (sym (mul-one n)) h) (times n p))))
  where
    times : (n : ℕ) → 0 < 10 ^ k → 2 ^ 53 ≤ 2 ^ 53 * 10 ^ k
    times n q = omega arith

-- a DRC's value is finite, with either sign
value-no-nan : (x : Float) → answer x ≡ value x → T (not (is_nan x))
unfolding is_nan
value-no-nan nan e = absurd (apart e)
  where
    apart : overflow ≡ value nan → ⊥
    apart q = let z : ◌≡◌ {A = ℕ} 0 1 = cc in omega arith
value-no-nan (inf s) e = tt
value-no-nan (fin s m e) q = tt

neg-finite : (x : Float) → answer x ≡ value x → answer (neg x) ≡ value (neg x)
unfolding neg
neg-finite nan e = let z : ◌≡◌ {A = ℕ} 0 1 = cc in absurd (omega arith)
neg-finite (inf s) e = let z : ◌≡◌ {A = ℕ} 0 1 = cc in absurd (omega arith)
neg-finite (fin s m e) q = refl

-- powers of ten up to the sixth
pub ten-bounds : (k : ℕ) → k ≤ 6 → (10 ^ k ≤ 1000000) × (0 < 10 ^ k)
ten-bounds zero h = (lit≤ tt, lit< tt)
ten-bounds (suc zero) h = (lit≤ tt, lit< tt)
ten-bounds (suc (suc zero)) h = (lit≤ tt, lit< tt)
ten-bounds (suc (suc (suc zero))) h = (lit≤ tt, lit< tt)
ten-bounds (suc (suc (suc (suc zero)))) h = (lit≤ tt, lit< tt)
ten-bounds (suc (suc (suc (suc (suc zero))))) h = (lit≤ tt, lit< tt)
ten-bounds (suc (suc (suc (suc (suc (suc zero)))))) h = (lit≤ tt, lit< tt)
ten-bounds (suc (suc (suc (suc (suc (suc (suc k))))))) h = absurd (beyond k h)
  where
    beyond : (k : ℕ) → suc (suc (suc (suc (suc (suc (suc k)))))) ≤ 6 → ⊥
    beyond k g = omega arith

pub constant-finite : (s : Bool) (n k : ℕ) → n ≤ 2 ^ 53 → k ≤ 6 → answer (constant s n k) ≡ value (constant s n k)
unfolding constant
constant-finite s n k h j =
    let b = ten-bounds k j in
    let f = quotient-finite n k h (le_trans b.0 (lit≤ tt)) b.1 in
    by-if (λ (x : Float). answer x ≡ value x) (s and not (eqb n 0)) _ _ (λ e. neg-finite (quotient n k) f) (λ e. f)

pub constant-no-nan : (s : Bool) (n k : ℕ) → n ≤ 2 ^ 53 → k ≤ 6 → T (not (is_nan (constant s n k)))
constant-no-nan s n k h j = value-no-nan (constant s n k) (constant-finite s n k h j)

-- the format holds a DRC's value
pub constant-fits : (s : Bool) (n k : ℕ) → T (fits binary64 (constant s n k))
unfolding constant quotient
constant-fits s n k =
    by-if (λ (x : Float). T (fits binary64 x)) (s and not (eqb n 0)) _ _ (λ e. neg-fits binary64 (quotient n k) (div-fits binary64 (of_int binary64 (pos n)) (of_int binary64 (pos (10 ^ k))))) (λ e. div-fits binary64 (of_int binary64 (pos n)) (of_int binary64 (pos (10 ^ k))))

-- the value, as it is worked out with a power p of ten
module _ (s : Bool) (n k p : ℕ) (e : p ≡ 10 ^ k) where
  pub constant-negated : s ≡ true → (n ≡ 0 → ⊥) → neg (div binary64 (of_int binary64 (pos n)) (of_int binary64 (pos p))) ≡ constant s n k
  unfolding constant quotient if ◌and◌
  constant-negated h j = rw (e, h, ne_eqb n 0 j)

  pub constant-zero : n ≡ 0 → div binary64 (of_int binary64 (pos n)) (of_int binary64 (pos p)) ≡ constant s n k
  unfolding constant quotient if ◌and◌
  constant-zero h = by_bool s
    where
      by_bool : (b : Bool) → div binary64 (of_int binary64 (pos n)) (of_int binary64 (pos p)) ≡ constant b n k
      by_bool true = rw (e, eq-eqb n 0 h)
      by_bool false = rw e

  pub constant-plain : s ≡ false → div binary64 (of_int binary64 (pos n)) (of_int binary64 (pos p)) ≡ constant s n k
  unfolding constant quotient if ◌and◌
  constant-plain h = rw (e, h)
