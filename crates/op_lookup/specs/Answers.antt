-- What the look-ups answer: by three letters [02 Wish 4], and by number.
-- Assumes nothing.
use Rattle.std.specs.Prelude.{ℕ, ◌<◌, ◌≡◌, ◌↔◌, Bool, List, [], eqb, get_or, length, Option, Some, None}
use Rattle.base.specs.Test.{◌and◌}
use Rattle.ops.specs.Ops.{rows, cells_of}
use Rattle.ops.specs.Lookup.{row_at, row_of_number}

-- a row of the constant table, as cells, has the letters a, b and c
pub record HasLetters (cells : List ℕ) (a b c : ℕ) : Type 0 where
  pub first : get_or cells 2 0 ≡ a
  pub second : get_or cells 3 0 ≡ b
  pub third : get_or cells 4 0 ≡ c

abbrev pub lettered : List ℕ → ℕ → ℕ → ℕ → Bool
lettered cells a b c = eqb (get_or cells 2 0) a and eqb (get_or cells 3 0) b and eqb (get_or cells 4 0) c

-- in the one table: row i exactly where row i has these letters, unknown exactly where no row has
pub record Answers (a b c : ℕ) (r : Option ℕ) : Type 0 where
  pub row : (i : ℕ) → (r ≡ Some i) ↔ ((i < length rows) × HasLetters (cells_of (row_at i)) a b c)
  pub unknown : (r ≡ None) ↔ ((i : ℕ) → i < length rows → HasLetters (cells_of (row_at i)) a b c → ⊥)

-- in any list of such rows: row i exactly where row i is the first that has these letters, unknown exactly where no row has
pub record AnswersIn (t : List (List ℕ)) (a b c : ℕ) (r : Option ℕ) : Type 0 where
  pub row : (i : ℕ)
      → (r ≡ Some i)
      ↔ ((i < length t) × HasLetters (get_or t i []) a b c × ((j : ℕ) → j < i → HasLetters (get_or t j []) a b c → ⊥))
  pub unknown : (r ≡ None) ↔ ((i : ℕ) → i < length t → HasLetters (get_or t i []) a b c → ⊥)

-- The look-up by number, through an index of the rows that is made once.

-- a number's cell in the index is its row, or 255
abbrev pub slot_of : Option ℕ → ℕ
slot_of (Some i) = i
slot_of None = 255

-- an index has a cell for each number to the largest
pub record IndexOf (cells : List ℕ) : Type 0 where
  pub size : length cells ≡ 1002
  pub slots : (n : ℕ) → n < 1002 → get_or cells n 0 ≡ slot_of (row_of_number n)
