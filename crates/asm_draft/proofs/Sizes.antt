-- How many words a deck's parts have at most, by the bytes of its text: a card that has words has a byte, and each line but the last a byte that ends it.
-- Assumes nothing.
use Prim.Native.Nat.{ℕ, suc, ◌+◌, ◌*◌, ◌≤◌}
use native.Mathlib.Omega.{arith}
use mathlib.Core.Path.{◌≡◌, refl, ap, ◌∙◌}
use mathlib.Core.Bool.{Bool, true, false}
use mathlib.Core.List.{List, [], ◌∷◌}
use lib.Dec.{eqb, leb}
use lib.ListN.{length, length-append}
use Rattle.base.specs.Test.{◌and◌, ◌or◌, if}
use Rattle.language.specs.Text.{is_empty, lines, newline, push}
use Rattle.language.specs.Operation.{is_skipped, operation_of}
use Rattle.language.specs.Card.{Card, Reader, card_of, cards_of, holds_place, in_section, is_external, is_one_word, of_words, one, past, start, walk, word_count}
use Rattle.language.specs.Symbol.{Symbol}
use Rattle.language.specs.Image.{count, counts_in, entry_in, flat, fresh_in, is_fresh, starts_in}
use Rattle.language.proofs.Places.{behind, behind-cases}
use Rattle.language.proofs.Lengths.{counts-length, entries-length, fresh-length, starts-length}
use Rattle.asm_cards.proofs.Counting.{words-half}

-- the bytes of some lines, with those that end them
abbrev total : List (List ℕ) → ℕ
total [] = 0
total (l ∷ ls) = length l + 1 + total ls

push-total : (b : ℕ) (ls : List (List ℕ)) (n : ℕ) → total ls ≤ n + 1 → total (push b ls) ≤ n + 2
push-total b [] n h = omega arith
push-total b (l ∷ ls) n h = omega arith

total-le : (s : List ℕ) → total (lines s) ≤ length s + 1
unfolding lines if
total-le [] = omega arith
total-le (b ∷ bs) = go (eqb b newline) (total-le bs)
  where
    go : (t : Bool) → total (lines bs) ≤ length bs + 1 → total (if t ([] ∷ lines bs) (push b (lines bs))) ≤ suc (length bs) + 1
    go true h = omega arith
    go false h = omega (arith, push-total b (lines bs) (length bs) h)

-- a sum over the cards of a walk, half the bytes of its line for each
module _ (size : List Card → ℕ) (m : Card → ℕ) (none : size [] ≡ 0) (more : (c : Card) (cs : List Card) → size (c ∷ cs) ≡ m c + size cs)
    (each : (r : Reader) (s : List ℕ) → 2 * m (card_of r s) ≤ length s + 1) where
  walk-size : (r : Reader) (ls : List (List ℕ)) → 2 * size (walk r ls) ≤ total ls
  unfolding walk
  walk-size r [] = omega (arith, none)
  walk-size r (s ∷ ls) =
      let c = card_of r s in
      let h : 2 * size (behind c ls) ≤ total ls =
      behind-cases (λ (cs : List Card). 2 * size cs ≤ total ls) c ls (omega (arith, none)) (walk-size (past c) ls) in
      omega (arith, more c (behind c ls), each r s)

  deck-size : (s : List ℕ) → 2 * size (cards_of s) ≤ length s + 1
  unfolding cards_of
  deck-size s = omega (arith, walk-size start (lines s), total-le s)

-- Cards.

and-false : (a b : Bool) → (a and (false and b)) ≡ false
unfolding ◌and◌
and-false true b = refl
and-false false b = refl

and-nothing : (a : Bool) → (a and false) ≡ false
unfolding ◌and◌
and-nothing true = refl
and-nothing false = refl

one-le : (b : Bool) → one b ≤ 1
unfolding if
one-le true = omega arith
one-le false = omega arith

-- a test that an empty line fails
passes : (p : Card → Bool) → ((r : Reader) → p (card_of r []) ≡ false) → (r : Reader) (s : List ℕ) → 2 * one (p (card_of r s)) ≤ length s + 1
unfolding if
passes p e r [] = rw (e r) (omega arith)
passes p e r (b ∷ bs) = omega (arith, one-le (p (card_of r (b ∷ bs))))

no_place : (r : Reader) → holds_place (card_of r []) ≡ false
unfolding holds_place card_of operation_of is_empty is_skipped if ◌or◌
no_place r = and-false (leb 5 r.opened) _

no-external : (r : Reader) → is_external (card_of r []) ≡ false
unfolding is_external card_of operation_of is_empty if ◌or◌
no-external r = and-nothing (in_section 0 (card_of r []))

no-fresh : (r : Reader) → is_fresh (card_of r []) ≡ false
unfolding is_fresh card_of operation_of is_empty is_skipped if ◌or◌
no-fresh r = and-false (in_section 3 (card_of r [])) _

words-each : (r : Reader) (s : List ℕ) → 2 * word_count (card_of r s) ≤ length s + 1
unfolding word_count card_of operation_of is_empty is_one_word if ◌or◌
words-each r [] = go (of_words (card_of r []))
  where
    go : (a : Bool) → 2 * if a 0 0 ≤ 1
    go true = omega arith
    go false = omega arith
words-each r (x ∷ s) = words-half (card_of r (x ∷ s)) refl (omega arith)

-- Parts.

pub entries-most : (all : List Symbol) (s : List ℕ) → 2 * length (flat (entry_in all) (cards_of s)) ≤ 8 * (length s + 1)
entries-most all s =
    omega
    (arith, entries-length all (cards_of s), deck-size (count holds_place) (λ c. one (holds_place c)) refl (λ c cs. refl) (passes holds_place no_place) s)

pub fresh-most : (s : List ℕ) → 2 * length (flat fresh_in (cards_of s)) ≤ length s + 1
fresh-most s =
    omega (arith, fresh-length (cards_of s), deck-size (count is_fresh) (λ c. one (is_fresh c)) refl (λ c cs. refl) (passes is_fresh no-fresh) s)

pub counts-most : (all : List Symbol) (s : List ℕ) → 2 * length (flat (counts_in all) (cards_of s)) ≤ length s + 1
counts-most all s =
    omega
    (arith, counts-length all (cards_of s), deck-size (count is_external) (λ c. one (is_external c)) refl (λ c cs. refl) (passes is_external no-external) s)

pub starts-most : (all : List Symbol) (s : List ℕ) → 2 * length (flat (starts_in all) (cards_of s)) ≤ length s + 1
starts-most all s =
    deck-size (λ cs. length (flat (starts_in all) cs)) word_count refl
    (λ c cs. length-append (starts_in all c) (flat (starts_in all) cs) ∙ ap (λ (k : ℕ). k + length (flat (starts_in all) cs)) (starts-length all c))
    words-each s
