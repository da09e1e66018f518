-- What is known of the words that hold the symbols, and of a meaning that they give: sorts by their numbers, values within limits.
-- Assumes nothing.
use Rattle.std.specs.Prelude.{ℕ, ◌+◌, ◌*◌, ◌<◌, ◌≤◌, ◌≡◌, List, [], ◌∷◌, ◌++◌, length, get_or, Option, Some, None}
use Rattle.language.specs.Symbol.{Symbol}
use Rattle.asm_types.specs.Views.{most_word, sort_at, symbols_in}
use Rattle.asm_types.specs.declared.Meaning.{Meaning}
use Rattle.asm_types.specs.declared.Meaning.TheVariants as meaning

-- the largest number of a sort; the first sort of a place; a number over every place
abbrev pub last_sort : ℕ
last_sort = 11

abbrev pub first_placed : ℕ
first_placed = 7

abbrev pub most_places : ℕ
most_places = 65536

-- the first n symbols stand in the words xs
pub record Symbolic (xs : List ℕ) (n : ℕ) : Type 0 where
  pub room : 5 * n ≤ length xs
  pub sorts : (i : ℕ) → i < n → get_or xs (5 * i + 2) 0 ≤ last_sort
  pub values : (i : ℕ) → i < n → get_or xs (5 * i + 3) 0 ≤ most_word
  pub places : (i : ℕ) → i < n → first_placed ≤ get_or xs (5 * i + 2) 0 → get_or xs (5 * i + 3) 0 ≤ most_places

-- the numbers of a meaning are within their limits
abbrev pub Fits : Meaning → Type 0
Fits meaning.Undefined = Unit {0}
Fits meaning.Sortless = Unit {0}
Fits (meaning.ExternalOf n) = n ≤ most_word
Fits (meaning.AddressOf a) = a ≤ most_word
Fits (meaning.ValueOf e) = e.value ≤ most_word
Fits (meaning.PlaceOf p) = (p.sort ≤ last_sort) × (p.place ≤ most_places)
Fits (meaning.Lacking p) = p.sort ≤ last_sort

abbrev pub FitsCount : Option ℕ → Type 0
FitsCount (Some n) = n ≤ most_word
FitsCount None = Unit {0}

abbrev pub symbol_of : ℕ → ℕ → ℕ → ℕ → ℕ → Symbol
symbol_of k l a v t = record { name = k; line = l; sort = sort_at a; value = v; letter = t }

-- symbol n is added: ys are the words after xs
pub record Added (xs : List ℕ) (n k l a v t : ℕ) (ys : List ℕ) : Type 0 where
  pub symbols : symbols_in ys (n + 1) ≡ symbols_in xs n ++ (symbol_of k l a v t ∷ [])
  pub symbolic : Symbolic ys (n + 1)
  pub before : (j : ℕ) → j < 5 * n → get_or ys j 0 ≡ get_or xs j 0
  pub beyond : (j : ℕ) → 5 * n + 5 ≤ j → get_or ys j 0 ≡ get_or xs j 0
  pub long : length ys ≡ length xs
