-- The draft of a text's table: the numbers of its header, its layout, and the deck that it is part of.
-- Assumes nothing.
use Prim.Native.Nat.{ℕ, zero, suc, ◌+◌, ◌-◌, ◌<◌, ◌≤◌}
use mathlib.Core.Path.{◌≡◌, refl, sym, ap, subst, ◌∙◌}
use mathlib.Core.Bool.{Bool}
use mathlib.Core.List.{List, ◌++◌}
use native.Mathlib.Nat.{sub-zero}
use native.Mathlib.Omega.{arith}
use lib.ListN.{drop, get_or, length, take}
use Rattle.base.specs.Test.{◌and◌}
use Rattle.rules.specs.Table.{constants, fresh_count, size, table_length, workings}
use Rattle.rules.specs.Check.{sections_ok}
use Rattle.bodies.specs.Bodies.{Entries, Filled}
use Rattle.table_layout.specs.Laid.{Laid}
use Rattle.entries.specs.Classes.{ClassesOf}
use Rattle.table_layout.proofs.Sizes.{laid}
use Rattle.tables.proofs.Passes.{entries-of, known_of}
use Rattle.language.specs.Text.{max_bytes}
use Rattle.language.specs.Card.{Card, cards_of, holds_place}
use Rattle.language.specs.Symbol.{Symbol, all_placed}
use Rattle.language.specs.Image.{count, counts_in, entry_in, flat, fresh_in, header, image, starts_in, symbols_of}
use Rattle.language.specs.Fault.{Deck, deck_in, deck_of, deck_with}
use Rattle.language.specs.Answer.{is_complete, is_within, limits_kept}
use Rattle.language.proofs.Lengths.{table-length}
use Rattle.asm_types.specs.Views.{symbols_from, symbols_in}
use Rattle.asm_collect.specs.Gathered.{CollectedOf, header_in}
use Rattle.asm_collect.specs.declared.Collected.{Collected}
use Rattle.assembler.specs.Judges.{Judged, Prepared, deck_from}

symbols-length : (xs : List ℕ) (i n : ℕ) → length (symbols_from xs i n) ≡ n
unfolding symbols_from
symbols-length xs i zero = refl
symbols-length xs i (suc n) = ap suc (symbols-length xs (suc i) n)

module _ (text syms t : List ℕ) (c : Collected) (p : Prepared text syms t c) where
  abbrev cards : List Card
  cards = cards_of text

  abbrev all : List Symbol
  all = symbols_of cards

  abbrev n : ℕ
  n = c.labels

  abbrev parts : List ℕ
  parts = flat (entry_in all) cards ++ (flat fresh_in cards ++ (flat (counts_in all) cards ++ flat (starts_in all) cards))

  -- the header, and what stands behind it
  table-parts : t ≡ header_in c ++ parts
  unfolding image
  table-parts = p.table_is ∙ ap (λ (h : List ℕ). h ++ parts) (sym p.collected.header_is)

  pub size_is : c.counts.size ≡ get_or t 0 0
  size_is = sym (ap (λ (l : List ℕ). get_or l 0 0) table-parts)

  constants-is : c.counts.constants ≡ get_or t 1 0
  constants-is = sym (ap (λ (l : List ℕ). get_or l 1 0) table-parts)

  workings-is : c.counts.workings ≡ get_or t 2 0
  workings-is = sym (ap (λ (l : List ℕ). get_or l 2 0) table-parts)

  fresh-is : c.counts.fresh ≡ get_or t 3 0
  fresh-is = sym (ap (λ (l : List ℕ). get_or l 3 0) table-parts)

  externals-is : c.counts.externals ≡ get_or t 4 0
  externals-is = sym (ap (λ (l : List ℕ). get_or l 4 0) table-parts)

  long : length t ≡ table_length t
  long = subst (λ (l : List ℕ). length l ≡ table_length l) (sym p.table_is) (table-length all cards)

  header-le : 8 ≤ length t
  header-le = let e : length t ≡ length (header_in c ++ parts) = ap length table-parts in omega arith

  pub laid-is : Laid t
  laid-is =
      laid t
      (record {
        header = header-le;
        few = omega (arith, size_is, p.collected.size_le);
        fresh = omega (arith, fresh-is, p.collected.fresh_le);
        externals = omega (arith, externals-is, p.collected.externals_le);
        words = omega (arith, constants-is, workings-is, p.collected.words_le);
      })
      long

  pub entries-are : (k : ℕ) → k ≡ c.counts.size → Entries t k
  entries-are k e = entries-of t k laid-is (e ∙ size_is)

  pub short-table : length t ≤ 196616
  short-table = omega (arith, laid-is.exact, laid-is.limits.few, laid-is.limits.fresh, laid-is.limits.externals, laid-is.limits.words)

  -- the number of places is the header's first
  places : count holds_place cards ≡ c.counts.size
  unfolding header
  places = sym (ap (λ (l : List ℕ). get_or l 0 0) p.collected.header_is)

  pub judged-by : (k : ℕ) → k ≡ c.counts.size → (cs body : List ℕ) → k < length cs → ClassesOf t cs → Filled t k body
      → Judged text t cs body k
  judged-by k e cs body r h b =
      record {
        short = p.short;
        known = known_of t cs body k laid-is (e ∙ size_is) r h b;
        places = places ∙ sym e;
      }

  -- the deck by what the passes have found
  pub deck-is : deck_from cards (symbols_in syms n) t ≡ deck_of text
  unfolding deck_of deck_in deck_with
  deck-is =
      ap (λ (l : List Symbol). deck_from cards l t) p.collected.symbols
      ∙ ap (λ (l : List ℕ). deck_from cards all l) p.table_is

  pub complete-is : c.counts.closed and sections_ok t and all_placed (symbols_in syms n) (symbols_in syms n) ≡ is_complete (deck_of text)
  unfolding is_complete
  complete-is = rw p.collected.closed_is (ap is_complete deck-is)

  pub within-is : is_within c.counts.size n c.counts.fresh (c.counts.constants + c.counts.workings) ≡ limits_kept (deck_of text)
  unfolding limits_kept size fresh_count constants workings
  within-is = rw (size_is, fresh-is, constants-is, workings-is, sym (symbols-length syms 0 n)) (ap limits_kept deck-is)

-- what is collected of a text and drafted in the first r words of ws
pub prepared : (text syms ws : List ℕ) (c : Collected) (r : ℕ) → length text ≤ max_bytes → CollectedOf text syms c
    → take r ws ≡ image (symbols_in syms c.labels) (cards_of text) → Prepared text syms (take (r - 0) (drop 0 ws)) c
prepared text syms ws c r h k e =
    record { short = h; collected = k; table_is = rw sub-zero (e ∙ ap (λ (l : List Symbol). image l (cards_of text)) k.symbols) }
