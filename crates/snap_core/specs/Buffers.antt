-- A buffer with bytes put into it.
-- Assumes nothing.
use Rattle.std.specs.Prelude.{ℕ, ◌+◌, List, ◌++◌, length, take, drop}

-- the list l with xs in place of as many elements from index a on
unfoldable pub put : List ℕ → ℕ → List ℕ → List ℕ
put l a xs = take a l ++ xs ++ drop (a + length xs) l
