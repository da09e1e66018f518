-- Divisions in the words of the papers: the one quotient of two words that does not fit, and where DVI and RMI raise the flag
-- [M 4.5] [M 4.6] [02 Wish 1].
-- Assumes nothing.
use Prim.Native.Nat.{ℕ, zero, suc, ◌-◌, ◌/◌, ◌^◌, ◌<◌, ◌≤◌, suc-le-suc, zero-le}
use mathlib.Core.Path.{◌≡◌, refl, sym, ap, subst, ◌∙◌}
use mathlib.Core.Bool.{Bool, true, false, not}
use mathlib.Core.List.{List}
use native.Mathlib.Nat.{div-one, div-le_self, div-lt_self}
use native.Mathlib.Omega.{arith}
use lib.Dec.{eqb}
use lib.IntN.{ℤ, pos, negsuc, neg_ℤ}
use lib.ListN.{length, set, length-set}
use lib.Seq.{set-get_or, get_or-set_same}
use lib.Signed.{mag, quot_z, rem_z, mag_rem}
use borrow.Author.Tests.{lt-ltb, eqb-true, eqb-false}
use Rattle.base.specs.Test.{◌and◌, ◌or◌, if}
use Rattle.base.specs.Lists.{◌at◌}
use Rattle.base.proofs.Bool.{or-false}
use Rattle.ops.specs.Machine.{cfp_b, IA, FLAG}
use Rattle.ops.specs.Ops.{DVI, RMI}
use Rattle.words.specs.Words.{signed, low, fits}
use Rattle.integers.proofs.Whole.{low_signed, mag-signed}
use Rattle.rules.specs.Effect.{after}
use Rattle.rules.specs.Operand.{Operand, moved_of, fetch_of, given, got}
use Rattle.rules.specs.Exec.{accumulated, divided, doing, loads}

-- the negation of a number up to m is in a range of m numbers below 0
negated : (r m : ℕ) → r ≤ m → 0 < m → mag (neg_ℤ (pos r)) < m
negated zero m h k = k
negated (suc r) m h k = h

-- a quotient of numbers in range is in range, but for the smallest by -1
quotient-mag : (x y : ℤ) → mag x < 2 ^ 31 → ((x ≡ negsuc (2 ^ 31 - 1)) × (y ≡ negsuc 0) → ⊥) → mag (quot_z x y) < 2 ^ 31
quotient-mag (pos a) (pos b) h n = omega (arith, div-le_self a b)
quotient-mag (pos a) (negsuc b) h n = negated (a / suc b) (2 ^ 31) (omega (arith, div-le_self a (suc b))) (omega arith)
quotient-mag (negsuc a) (pos b) h n = negated (suc a / b) (2 ^ 31) (omega (arith, div-le_self (suc a) b)) (omega arith)
quotient-mag (negsuc a) (negsuc zero) h n =
    let d : (a ≡ 2 ^ 31 - 1 → ⊥) = λ e. n (ap negsuc e, refl) in
    omega (arith, div-one (suc a), d)
quotient-mag (negsuc a) (negsuc (suc b)) h n = omega (arith, div-lt_self {n = suc a} {k = suc (suc b)} (suc-le-suc zero-le) (suc-le-suc (suc-le-suc zero-le)))

fitting : (x y : ℤ) → mag x < 2 ^ 31 → ((x ≡ negsuc (2 ^ 31 - 1)) × (y ≡ negsuc 0) → ⊥) → not (fits (quot_z x y)) ≡ false
unfolding fits
fitting x y h n = ap not (lt-ltb (mag (quot_z x y)) (2 ^ 31) (quotient-mag x y h n))

-- a word by its signed value
word_of : (w : ℕ) {n : ℤ} → w < 2 ^ 32 → signed w ≡ n → w ≡ low n
word_of w h e = sym (low_signed w h) ∙ ap low e

-- of all quotients of two words only that of -2147483648 by -1 does not fit
pub one-misfit : (a v : ℕ) → a < 2 ^ 32 → v < 2 ^ 32 → not (fits (quot_z (signed a) (signed v))) ≡ (eqb a 2147483648 and eqb v 4294967295)
unfolding fits signed ◌and◌ if
one-misfit a v h k = both (eqb a 2147483648) (eqb v 4294967295) refl refl
  where
    both : (b d : Bool) → eqb a 2147483648 ≡ b → eqb v 4294967295 ≡ d → not (fits (quot_z (signed a) (signed v))) ≡ (b and d)
    both true true e f = rw (eqb-true a 2147483648 e, eqb-true v 4294967295 f) refl
    both true false e f = fitting (signed a) (signed v) (mag-signed a h) (λ p. eqb-false v 4294967295 f (word_of v k p.1))
    both false d e f = fitting (signed a) (signed v) (mag-signed a h) (λ p. eqb-false a 2147483648 e (word_of a h p.0))

-- every remainder of a word fits
remainder-fits : (a v : ℕ) → a < 2 ^ 32 → not (fits (rem_z (signed a) (signed v))) ≡ false
unfolding fits
remainder-fits a v h = ap not (lt-ltb (mag (rem_z (signed a) (signed v))) (2 ^ 31) (omega (arith, mag_rem (signed a) (signed v), mag-signed a h)))

-- the flag after a division is 1 exactly where the divisor is 0 or what IA takes does not fit
module _ (z : List ℕ) (v : ℕ) (h : FLAG < length z) where
  raised : (i : ℕ) (b d : Bool) → if b (set z FLAG 1) (set (set z IA i) FLAG (if d 0 1)) at FLAG ≡ if (b or not d) 1 0
  unfolding ◌or◌ if
  raised i true d = get_or-set_same z FLAG 1 0 h
  raised i false true = get_or-set_same (set z IA i) FLAG 0 0 (subst (λ (n : ℕ). FLAG < n) (sym (length-set z IA i)) h)
  raised i false false = get_or-set_same (set z IA i) FLAG 1 0 (subst (λ (n : ℕ). FLAG < n) (sym (length-set z IA i)) h)

  divided-flag : (f : ℤ → ℤ → ℤ) → divided f z v at FLAG ≡ if (eqb v 0 or not (fits (f (signed (z at IA)) (signed v)))) 1 0
  unfolding divided accumulated
  divided-flag f = raised (low (f (signed (z at IA)) (signed v))) (eqb v 0) (fits (f (signed (z at IA)) (signed v)))

-- DVI and RMI by a word v that operand one holds; y are the words once it has acted
module _ (t : List ℕ) (k c : ℕ) (a b : Operand) (z m : List ℕ) {v : ℕ} {y : List ℕ} (e : fetch_of z m a ≡ got v) (s : moved_of cfp_b z a ≡ y) where
  loaded : (f : List ℕ → ℕ → List ℕ) → (after z m (loads z m a f)).words ≡ f y v
  unfolding loads given
  loaded f = rw (e, s) refl

  -- [02 Wish 1] after DVI the flag is 1 exactly where the divisor is 0 or the true quotient does not fit
  pub dvi-flag : FLAG < length y → (after z m (doing t k c a b z m DVI)).words at FLAG ≡ if (eqb v 0 or not (fits (quot_z (signed (y at IA)) (signed v)))) 1 0
  dvi-flag h = ap (λ (l : List ℕ). l at FLAG) (loaded _) ∙ divided-flag y v h quot_z

  -- the same of words: where the divisor is 0, and for -2147483648 by -1
  pub dvi-flag-words : FLAG < length y → y at IA < 2 ^ 32 → v < 2 ^ 32
      → (after z m (doing t k c a b z m DVI)).words at FLAG ≡ if (eqb v 0 or eqb (y at IA) 2147483648 and eqb v 4294967295) 1 0
  dvi-flag-words h i j = dvi-flag h ∙ ap (λ (d : Bool). if (eqb v 0 or d) 1 0) (one-misfit (y at IA) v i j)

  -- DVI of -2147483648 by -1 changes the flag alone
  pub dvi-smallest : y at IA ≡ 2147483648 → v ≡ 4294967295 → (after z m (doing t k c a b z m DVI)).words ≡ set y FLAG 1
  unfolding divided accumulated fits signed if
  dvi-smallest i j = loaded _ ∙ rw (i, j) (ap (λ (l : List ℕ). set l FLAG 1) (ap (set y IA) (sym i) ∙ set-get_or y IA 0))

  -- after RMI the flag is 1 exactly where the divisor is 0 [S What 003 leaves open]
  pub rmi-flag : FLAG < length y → y at IA < 2 ^ 32 → (after z m (doing t k c a b z m RMI)).words at FLAG ≡ if (eqb v 0) 1 0
  rmi-flag h i =
      ap (λ (l : List ℕ). l at FLAG) (loaded _)
      ∙ divided-flag y v h rem_z
      ∙ ap (λ (d : Bool). if (eqb v 0 or d) 1 0) (remainder-fits (y at IA) v i)
      ∙ ap (λ (d : Bool). if d 1 0) (or-false (eqb v 0))
