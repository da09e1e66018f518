-- Decks by their parts, what the passes over the lines ask, and the first fault.
-- Assumes nothing.
use Rattle.std.specs.Prelude.{ℕ, ◌<◌, ◌≤◌, ◌≡◌, true, List, length}
use Rattle.shape_core.specs.Known.{Known}
use Rattle.language.specs.Text.{max_bytes}
use Rattle.language.specs.Card as Cards
use Rattle.language.specs.Symbol.{Symbol}
use Rattle.language.specs.Image.{count, image, symbols_of}
use Rattle.language.specs.Fault.{Deck}
use Rattle.language.specs.Answer.{Answer, first_fault}
use Rattle.asm_collect.specs.Gathered.{CollectedOf}
use Rattle.asm_collect.specs.declared.Collected.{Collected}
use Rattle.asm_answers.specs.Verdicts.{Verdict, verdict_view}

abbrev pub deck_from : List Cards.Card → List Symbol → List ℕ → Deck
deck_from cs all t = record { cards = cs; symbols = all; table = t }

-- r is what f says of a deck with these symbols and this table, whatever its cards
abbrev pub OfDeck : {A : Type 0} → (Deck → A) → List Symbol → List ℕ → A → Type 0
OfDeck f all t r = (cs : List Cards.Card) → r ≡ f (deck_from cs all t)

-- a card that holds a place holds one of the table's
abbrev pub PlaceBelow : ℕ → Cards.Card → Type 0
PlaceBelow size c = Cards.holds_place c ≡ true → c.spot.place < size

-- v is the first fault of some cards
abbrev pub FirstFault : Deck → List Cards.Card → Verdict → Type 0
FirstFault d cs v = (a : Answer) → verdict_view v a ≡ first_fault d cs a

-- a text that is not too long, its table with class and body of each place
pub record Judged (text t classes body : List ℕ) (size : ℕ) : Type 0 where
  pub short : length text ≤ max_bytes
  pub known : Known t classes body size
  pub places : count Cards.holds_place (Cards.cards_of text) ≡ size

-- a text that is not too long, what is collected of it, and its table
pub record Prepared (text syms t : List ℕ) (c : Collected) : Type 0 where
  pub short : length text ≤ max_bytes
  pub collected : CollectedOf text syms c
  pub table_is : t ≡ image (symbols_of (Cards.cards_of text)) (Cards.cards_of text)
