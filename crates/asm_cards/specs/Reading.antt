-- What the code's cards say of those of crate `language`, and what a reader may have counted after some bytes.
-- Assumes nothing.
use Rattle.std.specs.Prelude.{ℕ, ◌+◌, ◌≤◌, ◌≡◌, List}
use Rattle.language.specs.Card as Cards
use Rattle.asm_types.specs.Views.{card_view}
use Rattle.asm_types.specs.declared.Card.{Card}

-- r is what f says of a card, whatever the bytes of its line
abbrev pub OfCard : {A : Type 0} → (Cards.Card → A) → Card → A → Type 0
OfCard f c r = (l : List ℕ) → r ≡ f (card_view c l)

-- The counts of a reader that has read n bytes: a line has at least the byte that ends it, and its words are at most its bytes.
pub record Counted (n : ℕ) (r : Cards.Reader) : Type 0 where
  pub line_le : r.line ≤ n + 1
  pub opened_le : r.opened ≤ 7
  pub place_le : r.place ≤ n
  pub word_le : r.word ≤ n
  pub external_le : r.external ≤ n
