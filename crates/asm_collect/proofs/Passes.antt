-- What the pass keeps from line to line: what is stored and counted, with what the cards left will add, is what all cards give.
-- Assumes nothing.
use Prim.Native.Nat.{ℕ, ◌+◌, ◌-◌, ◌*◌, ◌<◌, ◌≤◌}
use mathlib.Core.Path.{◌≡◌, refl, ap, ◌∙◌}
use mathlib.Core.Bool.{Bool, true, false}
use mathlib.Core.List.{List, [], ◌∷◌}
use native.Mathlib.Omega.{arith}
use borrow.Author.Tests.{eqb-false}
use lib.Dec.{eqb}
use lib.ListN.{drop, drop_of_length-le, length, length-drop, take}
use lib.Seq.{length-take-le}
use Rattle.base.specs.Test.{if}
use Rattle.language.specs.Text.{lines, max_bytes}
use Rattle.language.specs.Operation.{END, is_assembly}
use Rattle.language.specs.Card.{Card, Reader, card_of, cards_of, past, start, walk}
use Rattle.language.specs.Image.{symbols_from, symbols_of}
use Rattle.language.proofs.Places.{behind}
use Rattle.asm_reader.specs.Line.{line_end}
use Rattle.asm_reader.proofs.Laws.{walk-line}
use Rattle.asm_types.specs.Views as Views
use Rattle.asm_types.specs.Views.{symbols_in}
use Rattle.asm_cards.specs.Reading.{Counted}
use Rattle.asm_cards.proofs.Counting.{counted-more, counted-past}
use Rattle.asm_symbols.specs.Symbolic.{Symbolic}
use Rattle.asm_symbols.proofs.Stores.{symbolic-none}
use Rattle.asm_collect.specs.declared.numbers.Counts.{Counts}
use Rattle.asm_collect.specs.Tally.{Within, tallied, tally_from, untallied}
use Rattle.asm_collect.specs.Stored.{Stored}
use Rattle.asm_collect.specs.Gathered.{CollectedOf, collected_in, symbol_room}
use Rattle.asm_collect.proofs.Weights.{card-label-long}
use Rattle.asm_collect.proofs.Tallies.{closed_all, header-all, within-card, within_none}

-- the line from place i to its end e
abbrev pub line_at : List ℕ → ℕ → ℕ → List ℕ
line_at s i e = take (e - i) (drop i s)

-- n symbols and the counts k, after i bytes of the text s, with some cards left
pub record Collecting (s xs : List ℕ) (n i : ℕ) (k : Counts) (left : List Card) : Type 0 where
  pub read_le : i ≤ length s + 1
  pub labels_le : 6 * n ≤ i
  pub room : symbol_room ≤ length xs
  pub symbolic : Symbolic xs n
  pub within : Within i k
  pub symbols : symbols_from (symbols_in xs n) left ≡ symbols_of (cards_of s)
  pub counts : tally_from k left ≡ tally_from untallied (cards_of s)

pub collecting-none : (s xs : List ℕ) → symbol_room ≤ length xs → Collecting s xs 0 0 untallied (walk start (lines (drop 0 s)))
unfolding symbols_of cards_of Views.symbols_from
collecting-none s xs h =
    record {
      read_le = omega arith;
      labels_le = omega arith;
      room = h;
      symbolic = symbolic-none xs;
      within = within_none;
      symbols = refl;
      counts = refl;
    }

-- a label more is six bytes more
labels-more : (n m i : ℕ) (r : Reader) (l : List ℕ) → m ≡ if (eqb (card_of r l).label 0) n (n + 1) → 6 * n ≤ i
    → 6 * m ≤ i + length l + 1
unfolding if
labels-more n m i r l e h = go (eqb (card_of r l).label 0) refl e
  where
    go : (b : Bool) → eqb (card_of r l).label 0 ≡ b → m ≡ if b n (n + 1) → 6 * m ≤ i + length l + 1
    go true p q = omega arith
    go false p q = omega (arith, card-label-long r l (eqb-false (card_of r l).label 0 p))

-- END closes; any other card goes on
behind-end : (c : Card) (ls : List (List ℕ)) → is_assembly END c.operation ≡ true → behind c ls ≡ []
unfolding if
behind-end c ls e = rw e refl

behind-other : (c : Card) (ls : List (List ℕ)) → is_assembly END c.operation ≡ false → behind c ls ≡ walk (past c) ls
unfolding if
behind-other c ls e = rw e refl

-- with no card left, all is collected
pub all-collected : (s xs : List ℕ) (n i : ℕ) (k : Counts) (left : List Card) → Collecting s xs n i k left → left ≡ [] → length s ≤ max_bytes
    → CollectedOf s xs (collected_in n k)
unfolding symbols_from tally_from
all-collected s xs n i k left v e h =
    let a : symbols_in xs n ≡ symbols_of (cards_of s) = rw e at v.symbols in
    let b : k ≡ tally_from untallied (cards_of s) = rw e at v.counts in
    record {
      symbols = a;
      symbolic = v.symbolic;
      labels_le = omega (arith, v.labels_le, v.read_le);
      header_is = rw b (header-all (cards_of s) n);
      closed_is = ap (λ (x : Counts). x.closed) b ∙ closed_all (cards_of s);
      size_le = omega (arith, v.within.size_le, v.read_le);
      fresh_le = omega (arith, v.within.fresh_le, v.read_le);
      externals_le = omega (arith, v.within.externals_le, v.read_le);
      words_le = omega (arith, v.within.words_le, v.read_le);
    }

-- one card: c is that of the line from i to e, its symbol is stored and it is counted
module _ (s xs ys : List ℕ) (n m i e : ℕ) (k j : Counts) (r : Reader) (c : Card) (v : Collecting s xs n i k (walk r (lines (drop i s))))
    (h : i < length s) (q : e ≡ line_end s i) (le : e ≤ length s) (card : c ≡ card_of r (line_at s i e))
    (stored : Stored xs n c ys m) (tally : j ≡ tallied k c) where
  line-long : length (line_at s i e) ≡ e - i
  line-long = length-take-le (e - i) (drop i s) (omega (arith, length-drop i s))

  bytes : i + length (line_at s i e) + 1 ≡ e + 1
  bytes = omega (arith, line-long)

  pub collecting-card : Collecting s ys m (e + 1) j (behind c (lines (drop (e + 1) s)))
  unfolding symbols_from tally_from
  collecting-card =
      let a : symbols_from (symbols_in xs n) (card_of r (line_at s i e) ∷ behind (card_of r (line_at s i e)) (lines (drop (e + 1) s))) ≡ symbols_of (cards_of s) =
      rw (walk-line r s i e h q) at v.symbols in
      let b : tally_from k (card_of r (line_at s i e) ∷ behind (card_of r (line_at s i e)) (lines (drop (e + 1) s))) ≡ tally_from untallied (cards_of s) =
      rw (walk-line r s i e h q) at v.counts in
      record {
        read_le = omega arith;
        labels_le = omega (arith, bytes, labels-more n m i r (line_at s i e) (rw card at stored.count) v.labels_le);
        room = rw stored.long v.room;
        symbolic = stored.symbolic;
        within = rw (tally, card, ← bytes) (within-card i k r (line_at s i e) v.within);
        symbols = rw (stored.symbols, card) a;
        counts = rw (tally, card) b;
      }

  counted-card : Counted i r → Counted (e + 1) (past c)
  unfolding card_of
  counted-card w = rw (card, ← bytes) (counted-past i (card_of r (line_at s i e)) refl w)

  -- END is the last card
  pub ends-card : is_assembly END c.operation ≡ true → length s ≤ max_bytes → CollectedOf s ys (collected_in m j)
  ends-card f small = all-collected s ys m (e + 1) j _ collecting-card (behind-end c (lines (drop (e + 1) s)) f) small

  -- any other goes on
  pub goes_on_lem : (r' : Reader) → r' ≡ past c → is_assembly END c.operation ≡ false → Counted i r
      → Collecting s ys m (e + 1) j (walk r' (lines (drop (e + 1) s))) × Counted (e + 1) r'
  goes_on_lem r' on f w =
      (rw (on, ← behind-other c (lines (drop (e + 1) s)) f) collecting-card, rw on (counted-card w))

-- a card's counts are those of the reader above it
pub spot-counted : (i : ℕ) (r : Reader) (c : Card) (l : List ℕ) → c ≡ card_of r l → i ≤ max_bytes → Counted i r → Counted max_bytes c.spot
unfolding card_of
spot-counted i r c l e h w = rw e (counted-more i max_bytes r h w)

-- past the text no card is left
pub none_left : (r : Reader) (s : List ℕ) (i : ℕ) → length s ≤ i → walk r (lines (drop i s)) ≡ []
unfolding walk lines
none_left r s i h = let d : drop i s ≡ [] = drop_of_length-le s {i = i} h in rw d refl
