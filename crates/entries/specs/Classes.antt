-- What the pass over the fields answers and writes: the verdict, and where it is true the class of each place.
-- Assumes nothing.
use Rattle.std.specs.Prelude.{ℕ, ◌≤◌, ◌≡◌, Bool, true, List, get_or}
use Rattle.ops.specs.Class.{class_code}
use Rattle.rules.specs.Table.{class_at}
use Rattle.table_layout.specs.Below.{below}
use Rattle.entries.specs.Coded.{entry_ok}

-- the list holds the class of each of the n entries, and past the last the number of `none`
abbrev pub ClassesOf : List ℕ → List ℕ → Type 0
ClassesOf t cs = (p : ℕ) → p ≤ get_or t 0 0 → get_or cs p 0 ≡ class_code (class_at t p)

pub record Judged (t cs : List ℕ) (r : Bool) : Type 0 where
  pub verdict : r ≡ below (entry_ok t) (get_or t 0 0)
  pub classes : r ≡ true → ClassesOf t cs
