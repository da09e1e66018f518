-- What the definition of a DRC's text says, for the proofs of code.
-- Assumes nothing.
use Prim.Native.Nat.{ℕ, zero, suc, ◌+◌, ◌*◌, ◌-◌, ◌^◌, ◌<◌, ◌≤◌}
use mathlib.Core.Path.{◌≡◌, refl, sym, ap, subst, ◌∙◌}
use mathlib.Core.Bool.{Bool, true, false, not}
use mathlib.Core.List.{List, [], ◌∷◌}
use native.Mathlib.Nat.{mul-le-mul, pow-le-pow_right}
use native.Mathlib.Omega.{arith}
use borrow.Author.Tests.{lt-ltb, le-ltb, le-leb, lt-leb, leb-true, leb-false, eq-eqb, ne_eqb}
use lib.Dec.{eqb, leb, ltb}
use lib.ListN.{length, take, drop, get_or, length-take, length-drop}
use Rattle.base.specs.Test.{◌and◌, if}
use Rattle.base.specs.Lists.{◌at◌}
use Rattle.base.proofs.Bool.{by-if}
use Rattle.language.specs.Text.{Parsed, parsed, unparsed, parsed_if, byte, all, span, is_digit, decimal, number_of}
use Rattle.asm_types.specs.Views.{cut, cut_parsed, most_word}
use Rattle.asm_names.proofs.Numbers.{cut-le, cut-over}
use Rattle.language.specs.Decimal.{Decimal, before_point, written, unwritten, digits, joined, pointed_at, pointed, decimal_of, real_words}
use Rattle.language.proofs.Digits.{decimal-lt}
use Rattle.real_rules.specs.Real.{constant, low_word, high_word}
use Rattle.real_rules.proofs.Decimals.{ten-bounds}
use lib.Ieee.{Float}

-- powers of ten as a table
pub powers : (k : ℕ) → k ≤ 6 → get_or {A = ℕ} (1 ∷ 10 ∷ 100 ∷ 1000 ∷ 10000 ∷ 100000 ∷ 1000000 ∷ []) k 0 ≡ 10 ^ k
powers zero h = refl
powers (suc zero) h = refl
powers (suc (suc zero)) h = refl
powers (suc (suc (suc zero))) h = refl
powers (suc (suc (suc (suc zero)))) h = refl
powers (suc (suc (suc (suc (suc zero))))) h = refl
powers (suc (suc (suc (suc (suc (suc zero)))))) h = refl
powers (suc (suc (suc (suc (suc (suc (suc k))))))) h = absurd (beyond k h)
  where
    beyond : (k : ℕ) → suc (suc (suc (suc (suc (suc (suc k)))))) ≤ 6 → ⊥
    beyond k g = omega arith

-- digits
pub none : (s : List ℕ) → length s ≡ 0 → parsed 0 ≡ cut_parsed (digits s)
unfolding cut if
none [] h = refl
none (b ∷ bs) h = absurd (some (length bs) h)
  where
    some : (n : ℕ) → suc n ≡ 0 → ⊥
    some n g = omega arith

pub some-digits : (s : List ℕ) → (length s ≡ 0 → ⊥) → number_of s ≡ digits s
unfolding number_of ◌and◌
some-digits s h = rw (ne_eqb (length s) 0 h)

-- up to nine digits are not cut off
cut_small : (b : Bool) (n : ℕ) → (b ≡ true → n ≤ most_word) → cut_parsed (parsed_if b n) ≡ parsed_if b n
unfolding if
cut_small true n h = ap parsed (cut-le n (h refl))
cut_small false n h = refl

few : (s : List ℕ) → length s ≤ 9 → all is_digit s ≡ true → decimal 0 s ≤ most_word
few s h e = most (decimal 0 s) (10 ^ length s) (decimal-lt 0 s e) (pow-le-pow_right {n = 10} (omega arith) {i = length s} {j = 9} h)
  where
    most : (d c : ℕ) → d < (0 + 1) * c → c ≤ 10 ^ 9 → d ≤ most_word
    most d c p q = omega arith

pub digits-uncut : (s : List ℕ) → length s ≤ 9 → cut_parsed (digits s) ≡ digits s
digits-uncut s h = cut_small (all is_digit s) (decimal 0 s) (few s h)

pub number-uncut : (s : List ℕ) → length s ≤ 9 → cut_parsed (number_of s) ≡ number_of s
unfolding number_of ◌and◌
number-uncut s h = cut_small (not (eqb (length s) 0) and all is_digit s) (decimal 0 s) (λ e. few s h (second (not (eqb (length s) 0)) _ e))
  where
    second : (a b : Bool) → (a and b) ≡ true → b ≡ true
    second true b e = e
    second false true e = refl
    second false false e = e

-- what was cut off is a word
pub cut_word : (x : Parsed) (a : ℕ) → parsed a ≡ cut_parsed x → a ≤ most_word
cut_word unparsed a e = let z : ◌≡◌ {A = ℕ} 0 1 = cc in absurd (omega arith)
cut_word (parsed n) a e = go (leb n most_word) refl
  where
    same : a ≡ cut n
    same = cc

    go : (b : Bool) → leb n most_word ≡ b → a ≤ most_word
    go true h = let q : cut n ≡ n = cut-le n (leb-true n most_word h) in omega (arith, leb-true n most_word h, same)
    go false h = let q : cut n ≡ most_word = cut-over n (leb-false n most_word h) in omega (arith, same)

-- a number before the point and digits after it, joined, fit 53 bits
pub joined-le : (a b p : ℕ) → a ≤ most_word → b ≤ most_word → p ≤ 1000000 → a * p + b ≤ 2 ^ 53
joined-le a b p h j k = room (a * p) b (mul-le-mul h k) j
  where
    room : (x b : ℕ) → x ≤ most_word * 1000000 → b ≤ most_word → x + b ≤ 2 ^ 53
    room x b q r = omega arith

-- the point at i
module _ (s : Bool) (t : List ℕ) (i : ℕ) (e : i ≡ 0 + span before_point t) where
  at_i : pointed s t ≡ pointed_at s t i
  unfolding pointed
  at_i = let q : span before_point t ≡ i = omega arith in ap (pointed_at s t) q

  pub pointed-none : length t ≤ i → unwritten ≡ pointed s t
  unfolding if
  pointed-none h = sym (at_i ∙ rw (le-ltb i (length t) h))

  pub pointed-before : i < length t → 9 < i → unwritten ≡ pointed s t
  unfolding if
  pointed-before h j = sym (at_i ∙ rw (lt-ltb i (length t) h, lt-leb i 9 j))

  pub pointed-after : i < length t → i ≤ 9 → 6 < length t - (i + 1) → unwritten ≡ pointed s t
  unfolding if
  pointed-after h j k = sym (at_i ∙ rw (lt-ltb i (length t) h, le-leb i 9 j, lt-leb (length t - (i + 1)) 6 k))

  module _ (h : i < length t) (j : i ≤ 9) (k : length t - (i + 1) ≤ 6) where
    parts : pointed s t ≡ joined s (number_of (take i t)) (digits (drop (i + 1) t)) (length t - (i + 1))
    unfolding if
    parts = at_i ∙ rw (lt-ltb i (length t) h, le-leb i 9 j, le-leb (length t - (i + 1)) 6 k)

    number_is : (x : Parsed) → x ≡ cut_parsed (number_of (take i t)) → number_of (take i t) ≡ x
    number_is x q = sym (q ∙ number-uncut (take i t) (omega (arith, length-take i t)))

    digits_are : (x : Parsed) → x ≡ cut_parsed (digits (drop (i + 1) t)) → digits (drop (i + 1) t) ≡ x
    digits_are x q = sym (q ∙ digits-uncut (drop (i + 1) t) (omega (arith, length-drop (i + 1) t)))

    pub no_number : unparsed ≡ cut_parsed (number_of (take i t)) → unwritten ≡ pointed s t
    no_number q = sym (parts ∙ rw (number_is unparsed q))

    pub no-digits : {a : ℕ} → parsed a ≡ cut_parsed (number_of (take i t)) → unparsed ≡ cut_parsed (digits (drop (i + 1) t)) → unwritten ≡ pointed s t
    no-digits {a} q r = sym (parts ∙ rw (number_is (parsed a) q, digits_are unparsed r))

    pub both-parts : {a b p : ℕ} → parsed a ≡ cut_parsed (number_of (take i t)) → parsed b ≡ cut_parsed (digits (drop (i + 1) t)) → p ≡ 10 ^ (length t - (i + 1)) → written s (a * p + b) (length t - (i + 1)) ≡ pointed s t
    both-parts {a} {b} {p} q r f = sym (parts ∙ rw (number_is (parsed a) q, digits_are (parsed b) r, ← f))

-- the sign
pub no_text : (s : List ℕ) → length s ≡ 0 → unwritten ≡ decimal_of s
unfolding decimal_of pointed if
no_text [] h = refl
no_text (b ∷ bs) h = absurd (some (length bs) h)
  where
    some : (n : ℕ) → suc n ≡ 0 → ⊥
    some n g = omega arith

pub with-minus : (s : List ℕ) → s at 0 ≡ 45 → pointed true (drop 1 s) ≡ decimal_of s
unfolding decimal_of if
with-minus s h = rw (eq-eqb (s at 0) 45 h)

pub with-plus : (s : List ℕ) → (s at 0 ≡ 45 → ⊥) → s at 0 ≡ 43 → pointed false (drop 1 s) ≡ decimal_of s
unfolding decimal_of if
with-plus s h j = rw (ne_eqb (s at 0) 45 h, eq-eqb (s at 0) 43 j)

pub unsigned : (s : List ℕ) → (s at 0 ≡ 45 → ⊥) → (s at 0 ≡ 43 → ⊥) → pointed false s ≡ decimal_of s
unfolding decimal_of if
unsigned s h j = rw (ne_eqb (s at 0) 45 h, ne_eqb (s at 0) 43 j)

-- what a written text has: a number of at most 53 bits, and at most six digits after the point
abbrev Bounded : Bool → ℕ → ℕ → Decimal → Type 0
Bounded s n k d = written s n k ≡ d → (n ≤ 2 ^ 53) × (k ≤ 6)

no-written : (s : Bool) (n k : ℕ) → Bounded s n k unwritten
no-written s n k e = let z : ◌≡◌ {A = ℕ} 0 1 = cc in absurd (omega arith)

word_of : (x : Parsed) → (a : ℕ) → x ≡ parsed a → cut_parsed x ≡ x → a ≤ most_word
word_of x a e h = cut_word x a (sym e ∙ sym h)

joined-bounds : (s r : Bool) (n k j : ℕ) (x y : Parsed) → j ≤ 6 → cut_parsed x ≡ x → cut_parsed y ≡ y → Bounded s n k (joined r x y j)
joined-bounds s r n k j unparsed y h p q e = no-written s n k e
joined-bounds s r n k j (parsed a) unparsed h p q e = no-written s n k e
joined-bounds s r n k j (parsed a) (parsed b) h p q e =
    let f : n ≡ a * 10 ^ j + b = cc in
    let g : k ≡ j = cc in
    let l = joined-le a b (10 ^ j) (word_of (parsed a) a refl p) (word_of (parsed b) b refl q) (ten-bounds j h).0 in
    (subst (λ (x : ℕ). x ≤ 2 ^ 53) (sym f) l, subst (λ (x : ℕ). x ≤ 6) (sym g) h)

pointed-bounds : (s r : Bool) (n k : ℕ) (t : List ℕ) → Bounded s n k (pointed r t)
unfolding pointed
pointed-bounds s r n k t =
    let i = span before_point t in
    by-if (Bounded s n k) (ltb i (length t)) _ _
    (λ h.
    by-if (Bounded s n k) (leb i 9) _ _
    (λ j.
    by-if (Bounded s n k) (leb (length t - (i + 1)) 6) _ _
    (λ l.
    let j' = leb-true i 9 j in
    let l' = leb-true (length t - (i + 1)) 6 l in
    joined-bounds s r n k (length t - (i + 1)) (number_of (take i t)) (digits (drop (i + 1) t)) l' (number-uncut (take i t) (omega (arith, length-take i t))) (digits-uncut (drop (i + 1) t) (omega (arith, length-drop (i + 1) t))))
    (λ l. no-written s n k))
    (λ j. no-written s n k))
    (λ h. no-written s n k)

pub written-bounds : (l : List ℕ) {s : Bool} {n k : ℕ} → written s n k ≡ decimal_of l → (n ≤ 2 ^ 53) × (k ≤ 6)
unfolding decimal_of
written-bounds l {s} {n} {k} =
    by-if (Bounded s n k) (eqb (l at 0) (byte "-")) _ _ (λ e. pointed-bounds s true n k (drop 1 l))
    (λ e. by-if (Bounded s n k) (eqb (l at 0) (byte "+")) _ _ (λ h. pointed-bounds s false n k (drop 1 l)) (λ h. pointed-bounds s false n k l))

-- the words of a text
pub no_words : (l : List ℕ) → unwritten ≡ decimal_of l → 0 ∷ 0 ∷ [] ≡ real_words (decimal_of l)
no_words l e = ap real_words e

pub words_are : (l : List ℕ) {s : Bool} {n k : ℕ} {x : Float} → written s n k ≡ decimal_of l → x ≡ constant s n k
    → low_word x ∷ high_word x ∷ [] ≡ real_words (decimal_of l)
words_are l e h = ap (λ (x : Float). low_word x ∷ high_word x ∷ []) h ∙ ap real_words e
