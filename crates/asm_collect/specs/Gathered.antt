-- What the pass leaves: the symbols of a text, the numbers of its header, whether it is closed, and their bounds.
-- Assumes nothing.
use Rattle.std.specs.Prelude.{ℕ, ◌+◌, ◌≤◌, ◌≡◌, List, [], ◌∷◌}
use Rattle.language.specs.Card.{cards_of}
use Rattle.language.specs.Image.{header, symbols_of}
use Rattle.language.specs.Answer.{is_closed}
use Rattle.asm_types.specs.Views.{symbols_in}
use Rattle.asm_symbols.specs.Symbolic.{Symbolic}
use Rattle.asm_collect.specs.declared.Collected.{Collected}
use Rattle.asm_collect.specs.declared.numbers.Counts.{Counts}

-- a label's line has at least five bytes and the one that ends it, so a text has at most 5,462 labels of five words each
abbrev pub most_labels : ℕ
most_labels = 5462

abbrev pub symbol_room : ℕ
symbol_room = 27310

abbrev pub collected_in : ℕ → Counts → Collected
collected_in n k = record { labels = n; counts = k }

-- the eight words of the header
abbrev pub header_in : Collected → List ℕ
header_in r =
    r.counts.size ∷ r.counts.constants ∷ r.counts.workings ∷ r.counts.fresh ∷ r.counts.externals ∷ 0 ∷ r.counts.section5 ∷ r.counts.section6 ∷ []

pub record CollectedOf (text ys : List ℕ) (r : Collected) : Type 0 where
  pub symbols : symbols_in ys r.labels ≡ symbols_of (cards_of text)
  pub symbolic : Symbolic ys r.labels
  pub labels_le : r.labels ≤ most_labels
  pub header_is : header_in r ≡ header (cards_of text)
  pub closed_is : r.counts.closed ≡ is_closed (cards_of text)
  pub size_le : r.counts.size ≤ 16384
  pub fresh_le : r.counts.fresh ≤ 16384
  pub externals_le : r.counts.externals ≤ 16384
  pub words_le : r.counts.constants + r.counts.workings ≤ 32768
