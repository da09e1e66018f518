-- What a card counts is at most half of its line's bytes with the one that ends it; a labelled line has five bytes.
-- Assumes nothing.
use Prim.Native.Nat.{ℕ, ◌+◌, ◌*◌, ◌≤◌}
use mathlib.Core.Path.{◌≡◌, refl}
use mathlib.Core.Bool.{Bool, true, false}
use mathlib.Core.List.{List, [], ◌∷◌}
use native.Mathlib.Omega.{arith}
use borrow.Author.Tests.{eqb-true}
use lib.Dec.{eqb, leb}
use lib.ListN.{length, length-take, take}
use Rattle.base.specs.Test.{◌and◌, ◌or◌, if}
use Rattle.language.specs.Text.{is_empty, label_end, label_of, symbol_of}
use Rattle.language.specs.Operation.{is_skipped, operation_of}
use Rattle.language.specs.Card.{Card, Reader, card_of, holds_place, in_section, is_external, is_one_word, of_words, one, word_count}
use Rattle.language.specs.Image.{is_below, is_fresh}
use Rattle.asm_cards.proofs.Counting.{card-own, words-half}

one-le : (b : Bool) → one b ≤ 1
unfolding if
one-le true = omega arith
one-le false = omega arith

none : (b : Bool) → one (b and false) ≡ 0
unfolding if ◌and◌
none true = refl
none false = refl

-- an empty line counts nothing
module _ (r : Reader) where
  empty-place : one (holds_place (card_of r [])) ≡ 0
  unfolding holds_place card_of operation_of is_empty is_skipped ◌or◌ ◌and◌ if
  empty-place = none (leb 5 r.opened)

  empty-fresh : one (is_fresh (card_of r [])) ≡ 0
  unfolding is_fresh card_of operation_of is_empty is_skipped ◌or◌ ◌and◌ if
  empty-fresh = none (in_section 3 (card_of r []))

  empty-external : one (is_external (card_of r [])) ≡ 0
  unfolding is_external card_of operation_of is_empty ◌or◌ ◌and◌ if
  empty-external = none (in_section 0 (card_of r []))

  empty-words : word_count (card_of r []) ≡ 0
  unfolding word_count card_of operation_of is_empty is_one_word ◌or◌ if
  empty-words = go (of_words (card_of r []))
    where
      go : (b : Bool) → ◌≡◌ {A = ℕ} (if b 0 0) 0
      go true = refl
      go false = refl

-- a line of a byte counts at most one place, fresh word and EXP, and its words
pub record Weights (c : Card) : Type 0 where
  pub place_le : 2 * one (holds_place c) ≤ length c.line + 1
  pub fresh_le : 2 * one (is_fresh c) ≤ length c.line + 1
  pub external_le : 2 * one (is_external c) ≤ length c.line + 1
  pub word_le : 2 * word_count c ≤ length c.line + 1

full : (c : Card) → c.operation ≡ operation_of c.line → 1 ≤ length c.line → Weights c
full c own h =
    record {
      place_le = omega (arith, one-le (holds_place c));
      fresh_le = omega (arith, one-le (is_fresh c));
      external_le = omega (arith, one-le (is_external c));
      word_le = words-half c own h;
    }

line-full : (r : Reader) (b : ℕ) (bs : List ℕ) → 1 ≤ length (card_of r (b ∷ bs)).line
unfolding card_of
line-full r b bs = omega arith

pub weights : (r : Reader) (s : List ℕ) → Weights (card_of r s)
weights r [] =
    record {
      place_le = omega (arith, empty-place r);
      fresh_le = omega (arith, empty-fresh r);
      external_le = omega (arith, empty-external r);
      word_le = omega (arith, empty-words r);
    }
weights r (b ∷ bs) = full (card_of r (b ∷ bs)) (card-own (card_of r (b ∷ bs)) r (b ∷ bs) refl) (line-full r b bs)

-- the places below a section are among all; a card is of one section
pub below-le : (k : ℕ) (c : Card) → one (is_below k c) ≤ one (holds_place c)
unfolding if ◌and◌
below-le k c = go (holds_place c) (leb c.spot.opened k)
  where
    go : (a b : Bool) → one (a and b) ≤ one a
    go true b = one-le b
    go false b = omega arith

pub sections-le : (c : Card) → if (in_section 2 c) (word_count c) 0 + if (in_section 3 c) (word_count c) 0 ≤ word_count c
unfolding if
sections-le c = go (in_section 2 c) (in_section 3 c) refl refl
  where
    go : (a b : Bool) → in_section 2 c ≡ a → in_section 3 c ≡ b → if a (word_count c) 0 + if b (word_count c) 0 ≤ word_count c
    go true true p q = absurd (omega (arith, eqb-true c.spot.opened 3 p, eqb-true c.spot.opened 4 q))
    go true false p q = omega arith
    go false b p q = go' b
      where
        go' : (b : Bool) → 0 + if b (word_count c) 0 ≤ word_count c
        go' true = omega arith
        go' false = omega arith

-- a label has five bytes
label-long : (s : List ℕ) → (label_of s ≡ 0 → ⊥) → 5 ≤ length s
unfolding label_of symbol_of if ◌and◌
label-long s = go (eqb (length (take (label_end s) s)) 5) refl
  where
    go : (b : Bool) → eqb (length (take (label_end s) s)) 5 ≡ b → (label_of s ≡ 0 → ⊥) → 5 ≤ length s
    go true e h = omega (arith, eqb-true (length (take (label_end s) s)) 5 e, length-take (label_end s) s)
    go false e h = absurd (h (rw e))

pub card-label-long : (r : Reader) (s : List ℕ) → ((card_of r s).label ≡ 0 → ⊥) → 5 ≤ length s
unfolding card_of if
card-label-long r s h = go (is_skipped (operation_of s)) h
  where
    go : (b : Bool) → (if b 0 (label_of s) ≡ 0 → ⊥) → 5 ≤ length s
    go true k = absurd (k refl)
    go false k = label-long s k
