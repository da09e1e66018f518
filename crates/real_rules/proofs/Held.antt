-- RA stays finite, its two words are those of its value, and a pair loaded is the pair stored: for the state check and for demand 3.
-- Assumes nothing.
use Prim.Native.Nat.{ℕ, zero, suc, ◌+◌, ◌/◌, ◌%◌, ◌^◌, ◌<◌, ◌≤◌}
use mathlib.Core.Path.{◌≡◌, refl, sym, ap, subst, ◌∙◌}
use mathlib.Core.Bool.{Bool, true, false, not}
use mathlib.Core.List.{List, [], ◌∷◌}
use native.Mathlib.Omega.{arith}
use lib.Dec.{T}
use lib.IntN.{ℤ}
use lib.ListN.{set}
use lib.Seq.{get_or-set_other}
use lib.Ieee.{Float, nan, inf, fin, binary64, add, sub, mul, div, neg, of_bits, to_bits, fits, is_nan}
use lib.Ieee.Fits.{add-fits, sub-fits, mul-fits, div-fits, neg-fits, of_int-fits}
use lib.Ieee.Bits.{of_bits-to_bits, to_bits-of_bits, to_bits-lt, of_bits-fits}
use Rattle.base.specs.Lists.{◌at◌}
use Rattle.words.specs.Words.{signed}
use Rattle.real_rules.specs.Real.{Real, value, overflow, answer, pair, low_word, high_word, real_of, finite_high, both, negated, of_word, settled}
use Rattle.ops.specs.Machine.{RA, RAHIGH, RFLAG}
use Rattle.real_rules.proofs.Laws.{pair-beyond, of-word-finite}

-- a value that the format holds and that is finite, or overflow
abbrev pub Held : Real → Type 0
Held (value x) = T (fits binary64 x) × (answer x ≡ value x)
Held overflow = Unit {0}

held-answer : (x : Float) → T (fits binary64 x) → Held (answer x)
held-answer nan h = tt
held-answer (inf s) h = tt
held-answer (fin s m e) h = (h, refl)

pub held-real : (lo hi : ℕ) → Held (real_of lo hi)
unfolding real_of
held-real lo hi = held-answer (of_bits binary64 (pair lo hi)) (of_bits-fits binary64 (pair lo hi))

-- each operation whose result the format holds answers such a value
pub held_both : (f : Float → Float → Float) → ((x y : Float) → T (fits binary64 (f x y))) → (a b : Real) → Held (both f a b)
held_both f h (value x) (value y) = held-answer (f x y) (h x y)
held_both f h (value x) overflow = tt
held_both f h overflow b = tt

pub held-add : (a b : Real) → Held (both (add binary64) a b)
held-add = held_both (add binary64) (add-fits binary64)

pub held-sub : (a b : Real) → Held (both (sub binary64) a b)
held-sub = held_both (sub binary64) (sub-fits binary64)

pub held-mul : (a b : Real) → Held (both (mul binary64) a b)
held-mul = held_both (mul binary64) (mul-fits binary64)

pub held-div : (a b : Real) → Held (both (div binary64) a b)
held-div = held_both (div binary64) (div-fits binary64)

pub held-negated : (a : Real) → Held a → Held (negated a)
unfolding neg
held-negated (value nan) h = let z : ◌≡◌ {A = ℕ} 0 1 = cc in absurd (omega arith)
held-negated (value (inf s)) h = let z : ◌≡◌ {A = ℕ} 0 1 = cc in absurd (omega arith)
held-negated (value (fin s m e)) h = (neg-fits binary64 (fin s m e) h.0, refl)
held-negated overflow h = tt

pub held_word : (w : ℕ) → Held (of_word w)
held_word w = (of_int-fits binary64 (signed w), of-word-finite w)

-- the two words of a float are its pair
pub pair-words : (b : ℕ) → pair (b % 2 ^ 32) (b / 2 ^ 32) ≡ b
pair-words b = omega arith

pub real-words : (x : Float) → T (fits binary64 x) → real_of (low_word x) (high_word x) ≡ answer x
unfolding real_of
real-words x h = ap (λ (b : ℕ). answer (of_bits binary64 b)) (pair-words (to_bits binary64 x)) ∙ ap answer (of_bits-to_bits binary64 x h)

-- the high word of a finite value passes the test
pub high-finite : (x : Float) → T (fits binary64 x) → answer x ≡ value x → T (finite_high (high_word x))
high-finite x h e = by-test (finite_high (high_word x)) refl
  where
    lt64 : to_bits binary64 x < 2 ^ 64
    lt64 = to_bits-lt binary64 x h

    by-test : (b : Bool) → finite_high (high_word x) ≡ b → T b
    by-test true q = tt
    by-test false q =
        let p : value x ≡ overflow = sym e ∙ sym (real-words x h) ∙ pair-beyond (low_word x) (high_word x) (omega arith) (omega (arith, lt64)) (subst (λ (b : Bool). T (not b)) (sym q) tt) in
        let z : ◌≡◌ {A = ℕ} 0 1 = cc in
        absurd (omega arith)

-- a word that is set, or that lies past the end
at_set : (P : ℕ → Type 0) (z : List ℕ) (i v : ℕ) → P v → P (z at i) → P (set z i v at i)
at_set P [] i v h k = k
at_set P (x ∷ z) zero v h k = h
at_set P (x ∷ z) (suc i) v h k = at_set P z i v h k

at_other : (P : ℕ → Type 0) (z : List ℕ) (i r v : ℕ) → (i ≡ r → ⊥) → P (z at i) → P (set z r v at i)
at_other P z i r v h k = subst P (sym (get_or-set_other z r i v 0 h)) k

-- what the state check asks of RA: finite, and its flag 0 or 1
pub record RealOk (z : List ℕ) : Type 0 where
  pub finite : T (finite_high (z at RAHIGH))
  pub flag : z at RFLAG ≤ 1

-- it lasts where any word but RA's and its flag is set
pub real-other : (z : List ℕ) (r v : ℕ) → r ≤ 9 → RealOk z → RealOk (set z r v)
real-other z r v h k =
    record {
      finite = at_other (λ (w : ℕ). T (finite_high w)) z RAHIGH r v (λ e. omega arith) k.finite;
      flag = at_other (λ (w : ℕ). w ≤ 1) z RFLAG r v (λ e. omega arith) k.flag;
    }

-- and through every answer, whatever the words and however many
pub real-settled : (r : Real) (z : List ℕ) → Held r → RealOk z → RealOk (settled r z)
unfolding settled
real-settled (value x) z h k =
    let y = set (set z RA (low_word x)) RAHIGH (high_word x) in
    record {
      finite =
          at_other (λ (w : ℕ). T (finite_high w)) y RAHIGH RFLAG 0 (λ e. omega arith)
          (at_set (λ (w : ℕ). T (finite_high w)) (set z RA (low_word x)) RAHIGH (high_word x) (high-finite x h.0 h.1)
          (at_other (λ (w : ℕ). T (finite_high w)) z RAHIGH RA (low_word x) (λ e. omega arith) k.finite));
      flag =
          at_set (λ (w : ℕ). w ≤ 1) y RFLAG 0 (omega arith)
          (at_other (λ (w : ℕ). w ≤ 1) (set z RA (low_word x)) RFLAG RAHIGH (high_word x) (λ e. omega arith)
          (at_other (λ (w : ℕ). w ≤ 1) z RFLAG RA (low_word x) (λ e. omega arith) k.flag));
    }
real-settled overflow z h k =
    record {
      finite = at_other (λ (w : ℕ). T (finite_high w)) z RAHIGH RFLAG 1 (λ e. omega arith) k.finite;
      flag = at_set (λ (w : ℕ). w ≤ 1) z RFLAG 1 (omega arith) k.flag;
    }

-- a pair that is loaded and finite comes back as it was
pub load_store : (lo hi : ℕ) → lo < 2 ^ 32 → hi < 2 ^ 32 → T (not (is_nan (of_bits binary64 (pair lo hi)))) → (low_word (of_bits binary64 (pair lo hi)) ≡ lo) × (high_word (of_bits binary64 (pair lo hi)) ≡ hi)
load_store lo hi l h n =
    let e : to_bits binary64 (of_bits binary64 (pair lo hi)) ≡ pair lo hi = to_bits-of_bits binary64 (pair lo hi) (omega arith) n in
    (ap (λ (b : ℕ). b % 2 ^ 32) e ∙ omega arith, ap (λ (b : ℕ). b / 2 ^ 32) e ∙ omega arith)

-- NGR flips the sign's bit, zero's too, and no other
pub neg_bits : (m : ℕ) (e : ℤ) → to_bits binary64 (neg (fin false m e)) ≡ 2 ^ 63 + to_bits binary64 (fin false m e)
unfolding neg to_bits
neg_bits m e = omega arith

pub neg-bits-back : (m : ℕ) (e : ℤ) → to_bits binary64 (fin true m e) ≡ 2 ^ 63 + to_bits binary64 (neg (fin true m e))
unfolding neg to_bits
neg-bits-back m e = omega arith
