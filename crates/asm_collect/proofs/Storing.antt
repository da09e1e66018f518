-- A card's symbol behind the symbols above.
-- Assumes nothing.
use Prim.Native.Nat.{ℕ, ◌+◌}
use mathlib.Core.Path.{◌≡◌, refl, sym, ap, ◌∙◌}
use mathlib.Core.List.{List, append-nil}
use borrow.Author.Tests.{eq-eqb, ne_eqb}
use Rattle.base.specs.Test.{if}
use Rattle.language.specs.Card.{Card}
use Rattle.language.specs.Symbol.{Sort, Symbol, internal, is_sort, sort_of}
use Rattle.language.specs.Operand.{operand_at, outcomes, value_in}
use Rattle.language.specs.Image.{symbol_at, symbol_value}
use Rattle.asm_types.specs.Views.{sort_at, symbols_in}
use Rattle.asm_symbols.specs.Symbolic.{Added, Symbolic, symbol_of}
use Rattle.asm_collect.specs.Stored.{Stored}

-- the symbol of a card's label field, by its sort
abbrev letter_by : List Symbol → Card → Sort → ℕ
letter_by all c a = if (is_sort internal a) (value_in (operand_at (outcomes all c) 0)) 0

abbrev symbol_by : List Symbol → Card → Sort → Symbol
symbol_by all c a = record { name = c.label; line = c.spot.line; sort = a; value = symbol_value a all c; letter = letter_by all c a }

symbol-by : (all : List Symbol) (c : Card) → symbol_by all c (sort_of c) ≡ symbol_at all c
unfolding symbol_at
symbol-by all c = refl

module _ (xs : List ℕ) (n : ℕ) (c : Card) where
  pub none-stored : c.label ≡ 0 → Symbolic xs n → Stored xs n c xs n
  unfolding if
  none-stored e w =
      record { symbols = rw (eq-eqb c.label 0 e) (sym (append-nil _)); symbolic = w; count = rw (eq-eqb c.label 0 e) refl; long = refl }

  pub one-stored : (ys : List ℕ) (l a v t : ℕ) → Added xs n c.label l a v t ys → (c.label ≡ 0 → ⊥) → l ≡ c.spot.line
      → sort_at a ≡ sort_of c → v ≡ symbol_value (sort_at a) (symbols_in xs n) c → t ≡ letter_by (symbols_in xs n) c (sort_at a)
      → Stored xs n c ys (n + 1)
  unfolding if
  one-stored ys l a v t d e el ea ev et =
      let o : symbol_of c.label l a v t ≡ symbol_by (symbols_in xs n) c (sort_at a) = rw (el, ev, et) refl in
      let o' : symbol_of c.label l a v t ≡ symbol_at (symbols_in xs n) c = o ∙ ap (symbol_by (symbols_in xs n) c) ea ∙ symbol-by (symbols_in xs n) c in
      record {
        symbols = rw (ne_eqb c.label 0 e, ← o') d.symbols;
        symbolic = d.symbolic;
        count = rw (ne_eqb c.label 0 e) refl;
        long = d.long;
      }
