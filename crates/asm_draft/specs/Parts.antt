-- The parts of a table behind its header, and the words of a deck in a draft.
-- Assumes nothing.
use Rattle.std.specs.Prelude.{ℕ, ◌≤◌, ◌≡◌, Bool, false, List, leb, length, take}
use Rattle.language.specs.Card.{Card}
use Rattle.language.specs.Symbol.{Symbol}
use Rattle.language.specs.Image.{counts_in, entry_in, fresh_in, starts_in}
use Rattle.asm_draft.specs.declared.deck.Part.{Part}
use Rattle.asm_draft.specs.declared.deck.Part.TheVariants as part

abbrev pub part_in : Part → List Symbol → Card → List ℕ
part_in part.Entries all = entry_in all
part_in part.Fresh all = fresh_in
part_in part.Counts all = counts_in all
part_in part.Starts all = starts_in all

-- the part has no words of a card with so many SEC cards above, nor of those that follow
abbrev pub is_over : Part → ℕ → Bool
is_over part.Entries n = false
is_over part.Fresh n = leb 5 n
is_over part.Counts n = leb 5 n
is_over part.Starts n = leb 5 n

-- a number over the words of every deck of at most 32768 bytes: a card has two bytes at least, so there are 8 of the header, 8 × 16384
-- of entries, and 16384 each of fresh addresses, counts and starting words
abbrev pub most_words : ℕ
most_words = 180240

-- the first r words of `new` are the image
pub record Drafted (image old new : List ℕ) (r : ℕ) : Type 0 where
  pub image_is : take r new ≡ image
  pub end_le : r ≤ most_words
  pub same : length new ≡ length old
