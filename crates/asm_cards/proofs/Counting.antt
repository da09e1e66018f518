-- The words of a text by its length, and what a reader has counted past a card.
-- Assumes nothing.
use Prim.Native.Nat.{ℕ, suc, ◌+◌, ◌*◌, ◌-◌, ◌/◌, ◌<◌, ◌≤◌}
use native.Mathlib.Omega.{arith}
use mathlib.Core.Path.{◌≡◌, refl, ap}
use mathlib.Core.Bool.{Bool, true, false, not}
use mathlib.Core.List.{List, [], ◌∷◌}
use borrow.Author.Tests.{eqb-true, ltb-true}
use lib.Dec.{eqb, ltb}
use lib.ListN.{get_or-eq_default, drop, length, length-drop, length-take, take}
use lib.Seq.{length-take-le}
use Rattle.base.specs.Test.{◌and◌, ◌or◌, if}
use Rattle.base.specs.Lists.{◌at◌}
use Rattle.base.proofs.Bool.{by-if}
use Rattle.words.specs.Words.{text_words}
use Rattle.language.specs.Text.{all, byte, in_word, is_empty, is_letter, operand_start, operation_end, operation_start, span, tail_of}
use Rattle.language.specs.Form.{before_byte, delimited_by, delimited_in, quoted}
use Rattle.language.specs.Operation.{Assembly, DRC, DTC, Operation, SEC, empty, is_assembly, malformed, operation_in, operation_named, operation_of}
use Rattle.language.specs.Card.{Card, Reader, card_of, holds_place, is_external, is_one_word, of_words, one, opened_past, past, start, word_count}
use Rattle.language.specs.Image.{is_fresh}
use Rattle.language.proofs.Laws.{span-le}
use Rattle.asm_cards.specs.Reading.{Counted}

-- four characters a word, the last word not always full
pub text-words-length : (q : List ℕ) → length (text_words q) ≡ (length q + 3) / 4
unfolding text_words
text-words-length [] = refl
text-words-length (a ∷ []) = refl
text-words-length (a ∷ b ∷ []) = refl
text-words-length (a ∷ b ∷ d ∷ []) = refl
text-words-length (a ∷ b ∷ d ∷ e ∷ l) = omega (arith, text-words-length l)

-- a text is no longer than its line
delimited-le : (s : List ℕ) → length (delimited_in s) ≤ length s
unfolding delimited_by
delimited-le [] = omega arith
delimited-le (d ∷ s) =
    by-if (λ (l : List ℕ). length l ≤ suc (length s)) _ (take (span (before_byte d) s) s) []
    (λ e. omega (arith, length-take (span (before_byte d) s) s))
    (λ e. omega arith)

pub quoted-le : (s : List ℕ) → length (quoted s) ≤ length s
unfolding quoted tail_of
quoted-le s = omega (arith, delimited-le (drop (operand_start s) s), length-drop (operand_start s) s)

pub text-words-le : (s : List ℕ) → length (text_words (quoted s)) ≤ length s
text-words-le s = omega (arith, text-words-length (quoted s), quoted-le s)

one-le : (b : Bool) → one b ≤ 1
unfolding if
one-le true = omega arith
one-le false = omega arith

-- a line that names an operation has its three letters
end_le : (s : List ℕ) → operation_end s ≤ operation_start s + (length s - operation_start s)
unfolding operation_end
end_le s = omega (arith, span-le in_word (drop (operation_start s) s), length-drop (operation_start s) s)

pub assembly-long : (a : Assembly) (s : List ℕ) → is_assembly a (operation_of s) ≡ true → 3 ≤ length s
unfolding operation_of operation_in if ◌and◌
assembly-long a s h = go (is_empty s) (eqb (operation_end s) (operation_start s + 3)) refl h
  where
    named : Operation
    named = operation_named (s at operation_start s) (s at (operation_start s + 1)) (s at (operation_start s + 2))

    go : (b d : Bool) → eqb (operation_end s) (operation_start s + 3) ≡ d
        → is_assembly a (if b empty (if (d and all is_letter (take 3 (drop (operation_start s) s))) named malformed)) ≡ true → 3 ≤ length s
    go true d q k = let z : ◌≡◌ {A = ℕ} 0 1 = cc in absurd (omega arith)
    go false true q k = omega (arith, eqb-true (operation_end s) (operation_start s + 3) q, end_le s)
    go false false q k = let z : ◌≡◌ {A = ℕ} 0 1 = cc in absurd (omega arith)

-- a card's operation is its line's
pub card-own : (c : Card) (r : Reader) (s : List ℕ) → c ≡ card_of r s → c.operation ≡ operation_of c.line
unfolding card_of
card-own c r s e = rw e refl

-- the words of a card by its line: twice as many are at most its bytes and the one that ends it
module _ (c : Card) (own : c.operation ≡ operation_of c.line) where
  real-long : is_assembly DRC c.operation ≡ true → 3 ≤ length c.line
  real-long e = assembly-long DRC c.line (rw own at e)

  word-count-le : word_count c ≤ length c.line + 1
  unfolding word_count if
  word-count-le = go (of_words c) (is_one_word c.operation) (is_assembly DRC c.operation) (is_assembly DTC c.operation) refl
    where
      go : (a b e d : Bool) → is_assembly DRC c.operation ≡ e
          → if a (if b 1 (if e 2 (if d (length (text_words (quoted c.line))) 0))) 0 ≤ length c.line + 1
      go true true e d q = omega arith
      go true false true d q = omega (arith, real-long q)
      go true false false true q = omega (arith, text-words-le c.line)
      go true false false false q = omega arith
      go false b e d q = omega arith

  pub words-half : 1 ≤ length c.line → 2 * word_count c ≤ length c.line + 1
  unfolding word_count if
  words-half h = go (of_words c) (is_one_word c.operation) (is_assembly DRC c.operation) (is_assembly DTC c.operation) refl
    where
      go : (a b e d : Bool) → is_assembly DRC c.operation ≡ e
          → 2 * if a (if b 1 (if e 2 (if d (length (text_words (quoted c.line))) 0))) 0 ≤ length c.line + 1
      go true true e d q = omega arith
      go true false true d q = omega (arith, real-long q)
      go true false false true q = omega (arith, text-words-length (quoted c.line), quoted-le c.line)
      go true false false false q = omega arith
      go false b e d q = omega arith

opened_le : (c : Card) → c.spot.opened ≤ 7 → opened_past c ≤ 7
unfolding opened_past if ◌and◌
opened_le c h = go (is_assembly SEC c.operation) (ltb c.spot.opened 7) refl
  where
    go : (a b : Bool) → ltb c.spot.opened 7 ≡ b → c.spot.opened + one (a and b) ≤ 7
    go true true q = omega (arith, ltb-true c.spot.opened 7 q)
    go true false q = omega arith
    go false b q = omega arith

-- the counts past a card of a reader that has read n bytes: the line and the byte that ends it are read too
pub counted-past : (n : ℕ) (c : Card) → c.operation ≡ operation_of c.line → Counted n c.spot → Counted (n + length c.line + 1) (past c)
unfolding past
counted-past n c own v =
    record {
      line_le = omega (arith, v.line_le);
      opened_le = opened_le c v.opened_le;
      place_le = omega (arith, v.place_le, one-le (holds_place c));
      word_le = omega (arith, v.word_le, word-count-le c own);
      external_le = omega (arith, v.external_le, one-le (is_external c));
    }

pub counted-more : (n m : ℕ) (r : Reader) → n ≤ m → Counted n r → Counted m r
counted-more n m r h v =
    record {
      line_le = omega (arith, v.line_le);
      opened_le = v.opened_le;
      place_le = omega (arith, v.place_le);
      word_le = omega (arith, v.word_le);
      external_le = omega (arith, v.external_le);
    }

-- a reader starts with nothing counted
pub counted_start : Counted 0 start
counted_start =
    record { line_le = omega arith; opened_le = omega arith; place_le = omega arith; word_le = omega arith; external_le = omega arith }

-- the words of a text by where it stands in its line
pub words-between : (s : List ℕ) (i j : ℕ) → i ≤ j → j ≤ length s → take (j - i) (drop i s) ≡ quoted s
    → (j - i + 3) / 4 ≡ length (text_words (quoted s))
words-between s i j h l e =
    let n : length (take (j - i) (drop i s)) ≡ length (quoted s) = ap length e in
    let m : length (take (j - i) (drop i s)) ≡ j - i = length-take-le (j - i) (drop i s) (omega (arith, length-drop i s)) in
    omega (arith, text-words-length (quoted s))

and-false : (b : Bool) → (b and false) ≡ false
unfolding ◌and◌
and-false true = refl
and-false false = refl

-- a line too short for `F$`
pub fresh-short : (s : List ℕ) → length s < 2 → (eqb (s at 0) (byte "F") and eqb (s at 1) (byte "$")) ≡ false
fresh-short s h = let e : s at 1 ≡ 0 = get_or-eq_default s 0 {n = 1} (omega arith) in rw e (and-false (eqb (s at 0) (byte "F")))

and_assoc : (a b d : Bool) → (a and b and d) ≡ ((a and b) and d)
unfolding ◌and◌
and_assoc true b d = refl
and_assoc false b d = refl

-- the test of a fresh word, its two bytes as one test
pub fresh-by : (c : Card)
    → is_fresh c
    ≡ (eqb c.spot.opened 4 and not (eqb c.label 0) and (eqb (c.line at 0) (byte "F") and eqb (c.line at 1) (byte "$")) and ltb 0 (word_count c))
unfolding is_fresh
fresh-by c = rw (and_assoc (eqb (c.line at 0) (byte "F")) (eqb (c.line at 1) (byte "$")) (ltb 0 (word_count c)))
