-- The line of a text that begins at a place: the first of the language's lines of the text from there on [S Cards].
-- At the end of the text, and past it, no line is left; so an empty text has none, and a byte 10 at the very end begins none.
-- Assumes nothing.
use Rattle.std.specs.Prelude.{ℕ, ◌+◌, ◌-◌, ◌≡◌, List, [], ◌∷◌, Option, Some, None, ltb, length, take, drop}
use Rattle.base.specs.Test.{if}
use Rattle.language.specs.Text.{lines}
use Rattle.asm_reader.specs.declared.Line.{Line}

-- the first of some lines, an empty one where there is none; and the lines behind it
abbrev pub first_line : List (List ℕ) → List ℕ
first_line [] = []
first_line (l ∷ ls) = l

abbrev pub other_lines : List (List ℕ) → List (List ℕ)
other_lines [] = []
other_lines (l ∷ ls) = ls

-- where the line ends: as many bytes on as the first of the lines left has
abbrev pub line_end : List ℕ → ℕ → ℕ
line_end s at = at + length (first_line (lines (drop at s)))

-- where the line behind it begins: past the byte that ends it, where there is one
unfoldable pub line_behind : List ℕ → ℕ → ℕ
line_behind s at = if (ltb (line_end s at) (length s)) (line_end s at + 1) (line_end s at)

-- a line from a place up to another
abbrev pub bounds : ℕ → ℕ → Option Line
bounds a e = Some (record { start = a; end = e })

-- the bounds of the line, or none where no line is left
abbrev pub step_from : ℕ → List (List ℕ) → Option Line
step_from at [] = None
step_from at (l ∷ ls) = bounds at (at + length l)

unfoldable pub step_at : List ℕ → ℕ → Option Line
step_at s at = step_from at (lines (drop at s))

-- a reader at a place gives these lines, one after the other, and then the end
pub data Reads : List ℕ → ℕ → List (List ℕ) → Type 0 where
  ended : {s : List ℕ} {i : ℕ} → step_at s i ≡ None → Reads s i []
  line : {s : List ℕ} {i a e : ℕ} {ls : List (List ℕ)} → step_at s i ≡ bounds a e → Reads s (line_behind s i) ls → Reads s i (take (e - a) (drop a s) ∷ ls)
