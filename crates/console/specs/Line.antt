-- A line of a text by its number: the first is line 0, and an empty one stands for those that are not there.
-- Assumes nothing.
use Rattle.std.specs.Prelude.{ℕ, zero, suc, List, [], ◌∷◌}
use Rattle.language.specs.Text.{lines}

-- line k of some lines
abbrev pub line_at : List (List ℕ) → ℕ → List ℕ
line_at [] k = []
line_at (l ∷ ls) zero = l
line_at (l ∷ ls) (suc k) = line_at ls k

-- line k of a text
abbrev pub line_of : List ℕ → ℕ → List ℕ
line_of s k = line_at (lines s) k
