-- The counts of all cards are the header's numbers, and they stay within the bytes read.
-- Assumes nothing.
use Prim.Native.Nat.{ℕ, ◌+◌, ◌≤◌}
use mathlib.Core.Path.{◌≡◌, refl, sym, ◌∙◌}
use mathlib.Core.Bool.{Bool, true, false}
use mathlib.Core.List.{List, [], ◌∷◌}
use native.Mathlib.Omega.{arith}
use lib.ListN.{length}
use Rattle.base.specs.Test.{◌or◌, if}
use Rattle.base.proofs.Bool.{or-false}
use Rattle.language.specs.Card.{Card, Reader, card_of, holds_place, in_section, is_external, one, word_count}
use Rattle.language.specs.Image.{count, header, is_below, is_fresh, section_words}
use Rattle.language.specs.Answer.{is_closed, is_closing}
use Rattle.asm_collect.specs.declared.numbers.Counts.{Counts}
use Rattle.asm_collect.specs.Tally.{Within, tallied, tally_from, untallied}
use Rattle.asm_collect.specs.Gathered.{collected_in, header_in}
use Rattle.asm_collect.proofs.Weights.{Weights, below-le, sections-le, weights}

-- a number f of the counts that grows by w at each card grows by the sum g
module _ (f : Counts → ℕ) (g : List Card → ℕ) (w : Card → ℕ) (none : g [] ≡ 0)
    (more : (c : Card) (cs : List Card) → g (c ∷ cs) ≡ w c + g cs) (grows : (k : Counts) (c : Card) → f (tallied k c) ≡ f k + w c) where
  grown : (k : Counts) (cs : List Card) → f (tally_from k cs) ≡ f k + g cs
  unfolding tally_from
  grown k [] = omega (arith, none)
  grown k (c ∷ cs) = omega (arith, grown (tallied k c) cs, more c cs, grows k c)

or_assoc : (a b c : Bool) → ((a or b) or c) ≡ (a or b or c)
unfolding ◌or◌
or_assoc true b c = refl
or_assoc false b c = refl

closed-from : (k : Counts) (cs : List Card) → (tally_from k cs).closed ≡ (k.closed or is_closed cs)
unfolding tally_from tallied is_closed
closed-from k [] = sym (or-false k.closed)
closed-from k (c ∷ cs) = closed-from (tallied k c) cs ∙ or_assoc k.closed (is_closing c) (is_closed cs)

module _ (cs : List Card) where
  abbrev all : Counts
  all = tally_from untallied cs

  pub closed_all : all.closed ≡ is_closed cs
  unfolding ◌or◌
  closed_all = closed-from untallied cs

  counted-all : (f : Counts → ℕ) (p : Card → Bool) → ((k : Counts) (c : Card) → f (tallied k c) ≡ f k + one (p c))
      → f untallied ≡ 0 → f all ≡ count p cs
  counted-all f p h z = omega (arith, grown f (count p) (λ c. one (p c)) refl (λ c cs. refl) h untallied cs)

  words-all : (f : Counts → ℕ) (j : ℕ) → ((k : Counts) (c : Card) → f (tallied k c) ≡ f k + if (in_section j c) (word_count c) 0)
      → f untallied ≡ 0 → f all ≡ section_words j cs
  words-all f j h z =
      omega (arith, grown f (section_words j) (λ c. if (in_section j c) (word_count c) 0) refl (λ c cs. refl) h untallied cs)

  pub header-all : (n : ℕ) → header_in (collected_in n all) ≡ header cs
  unfolding header tallied
  header-all n =
      rw (counted-all (λ k. k.size) holds_place (λ k c. refl) refl, words-all (λ k. k.constants) 2 (λ k c. refl) refl, words-all (λ k. k.workings) 3 (λ k c. refl) refl, counted-all (λ k. k.fresh) is_fresh (λ k c. refl) refl, counted-all (λ k. k.externals) is_external (λ k c. refl) refl, counted-all (λ k. k.section5) (is_below 5) (λ k c. refl) refl, counted-all (λ k. k.section6) (is_below 6) (λ k c. refl) refl)
      refl

pub within_none : Within 0 untallied
within_none =
    record {
      size_le = omega arith;
      words_le = omega arith;
      fresh_le = omega arith;
      externals_le = omega arith;
      section5_le = omega arith;
      section6_le = omega arith;
    }

pub within_more : (n m : ℕ) (k : Counts) → n ≤ m → Within n k → Within m k
within_more n m k h v =
    record {
      size_le = omega (arith, v.size_le);
      words_le = omega (arith, v.words_le);
      fresh_le = omega (arith, v.fresh_le);
      externals_le = omega (arith, v.externals_le);
      section5_le = omega (arith, v.section5_le);
      section6_le = omega (arith, v.section6_le);
    }

-- a card more, and its line with the byte that ends it
tallied-within : (n : ℕ) (k : Counts) (c : Card) → Weights c → Within n k → Within (n + length c.line + 1) (tallied k c)
unfolding tallied
tallied-within n k c w v =
    record {
      size_le = omega (arith, v.size_le, w.place_le);
      words_le = omega (arith, v.words_le, w.word_le, sections-le c);
      fresh_le = omega (arith, v.fresh_le, w.fresh_le);
      externals_le = omega (arith, v.externals_le, w.external_le);
      section5_le = omega (arith, v.section5_le, w.place_le, below-le 5 c);
      section6_le = omega (arith, v.section6_le, w.place_le, below-le 6 c);
    }

pub within-card : (n : ℕ) (k : Counts) (r : Reader) (s : List ℕ) → Within n k → Within (n + length s + 1) (tallied k (card_of r s))
unfolding card_of
within-card n k r s v = tallied-within n k (card_of r s) (weights r s) v
