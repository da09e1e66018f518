-- The sort of a card's label by its number, and what the words of the symbols are once a card's label is stored.
-- Assumes nothing.
use Rattle.std.specs.Prelude.{ℕ, ◌+◌, ◌≤◌, ◌≡◌, List, ◌++◌, eqb, length}
use Rattle.base.specs.Test.{if}
use Rattle.language.specs.Card as Cards
use Rattle.language.specs.Symbol as Symbols
use Rattle.language.specs.Image.{symbol_in}
use Rattle.asm_types.specs.Views.{operation_view, sort_at, symbols_in}
use Rattle.asm_types.specs.declared.Card.{Card}
use Rattle.asm_symbols.specs.Symbolic.{Symbolic, last_sort}

pub record SortOf (c : Card) (r : ℕ) : Type 0 where
  pub sort_is : sort_at r ≡ Symbols.sort_at c.spot.opened (operation_view c.operation)
  pub sort_le : r ≤ last_sort

-- the symbols of xs and that of card c are the first r of ys
pub record Stored (xs : List ℕ) (n : ℕ) (c : Cards.Card) (ys : List ℕ) (r : ℕ) : Type 0 where
  pub symbols : symbols_in ys r ≡ symbols_in xs n ++ symbol_in (symbols_in xs n) c
  pub symbolic : Symbolic ys r
  pub count : r ≡ if (eqb c.label 0) n (n + 1)
  pub long : length ys ≡ length xs
