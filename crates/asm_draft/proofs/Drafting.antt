-- The five parts of a deck's table, written one behind the other, are its image.
-- Assumes nothing.
use Prim.Native.Nat.{ℕ, ◌+◌, ◌≤◌}
use native.Mathlib.Omega.{arith}
use mathlib.Core.Path.{◌≡◌, refl, ap, ◌∙◌}
use mathlib.Core.List.{List, ◌++◌}
use lib.ListN.{length}
use Rattle.language.specs.Text.{max_bytes}
use Rattle.language.specs.Card.{Card, cards_of}
use Rattle.language.specs.Symbol.{Symbol}
use Rattle.language.specs.Image.{counts_in, entry_in, flat, fresh_in, header, image, starts_in}
use Rattle.asm_draft.specs.Parts.{Drafted, most_words}
use Rattle.asm_draft.specs.Written.{Written}
use Rattle.asm_draft.proofs.Storing.{both}
use Rattle.asm_draft.proofs.Sizes.{counts-most, entries-most, fresh-most, starts-most}

header-long : (cs : List Card) → length (header cs) ≡ 8
unfolding header
header-long cs = refl

module _ (all : List Symbol) (s : List ℕ) (le : length s ≤ max_bytes) (h : List ℕ) (eh : h ≡ header (cards_of s)) (d0 : List ℕ)
    (enough : most_words ≤ length d0) where
  abbrev cs : List Card
  cs = cards_of s

  h-long : length h ≡ 8
  h-long = ap length eh ∙ header-long cs

  module _ (d1 : List ℕ) (w1 : ℕ) (p1 : Written d0 0 h d1 w1) where
    pub entries-room : w1 + length (flat (entry_in all) cs) ≤ length d1
    entries-room = omega (arith, p1.same, p1.past, h-long, entries-most all s)

    module _ (d2 : List ℕ) (w2 : ℕ) (p2 : Written d1 w1 (flat (entry_in all) cs) d2 w2) where
      pub fresh-room : w2 + length (flat fresh_in cs) ≤ length d2
      fresh-room = omega (arith, p1.same, p1.past, p2.same, p2.past, h-long, entries-most all s, fresh-most s)

      module _ (d3 : List ℕ) (w3 : ℕ) (p3 : Written d2 w2 (flat fresh_in cs) d3 w3) where
        pub counts-room : w3 + length (flat (counts_in all) cs) ≤ length d3
        counts-room =
            omega (
              arith,
              p1.same,
              p1.past,
              p2.same,
              p2.past,
              p3.same,
              p3.past,
              h-long,
              entries-most all s,
              fresh-most s,
              counts-most all s,
            )

        module _ (d4 : List ℕ) (w4 : ℕ) (p4 : Written d3 w3 (flat (counts_in all) cs) d4 w4) where
          all-long : w4 + length (flat (starts_in all) cs) ≤ most_words
          all-long =
              omega (
                arith,
                p1.past,
                p2.past,
                p3.past,
                p4.past,
                h-long,
                entries-most all s,
                fresh-most s,
                counts-most all s,
                starts-most all s,
              )

          pub starts-room : w4 + length (flat (starts_in all) cs) ≤ length d4
          starts-room = omega (arith, p1.same, p2.same, p3.same, p4.same, all-long)

          pub drafted : (d5 : List ℕ) (w5 : ℕ) → Written d4 w4 (flat (starts_in all) cs) d5 w5 → Drafted (image all cs) d0 d5 w5
          unfolding image
          drafted d5 w5 p5 =
              let p = both _ _ p1 (both _ _ p2 (both _ _ p3 (both _ _ p4 p5))) in
              record { image_is = p.front ∙ ap (λ (l : List ℕ). l ++ (flat (entry_in all) cs ++ (flat fresh_in cs ++ (flat (counts_in all) cs ++ flat (starts_in all) cs)))) eh; end_le = omega (arith, p5.past, all-long); same = p.same }
