-- The lent words with a table placed in them, or as they were.
-- Assumes nothing.
use Rattle.std.specs.Prelude.{ℕ, ◌≡◌, Bool, List, ◌++◌, leb, drop, length}
use Rattle.base.specs.Test.{if}

-- r says whether t has room in the words that go from old to new [S The table]
pub record Placed (t old new : List ℕ) (r : Bool) : Type 0 where
  pub fits : r ≡ leb (length t) (length old)
  pub left : new ≡ if r (t ++ drop (length t) old) old
