-- What the shape rules' functions ask: a laid table of n entries, the class and the body of each place, and of the one past the last.
-- Assumes nothing.
use Rattle.std.specs.Prelude.{ℕ, suc, ◌<◌, ◌≤◌, ◌≡◌, List, eqb, length, get_or}
use Rattle.base.specs.Test.{if}
use Rattle.ops.specs.Class.{class_code}
use Rattle.ops.specs.Format.{place_kind}
use Rattle.rules.specs.Table.{body_at, class_at}
use Rattle.table_layout.specs.Laid.{Laid}

pub record Known (t cs body : List ℕ) (n : ℕ) : Type 0 where
  pub laid : Laid t
  pub count : n ≡ get_or t 0 0
  pub room : n < length cs
  pub classes : (q : ℕ) → q ≤ n → get_or cs q 0 ≡ class_code (class_at t q)
  pub wide : n < length body
  pub bodies : (q : ℕ) → q ≤ n → get_or body q 0 ≡ body_at t q

-- a place operand by its kind and its value: 0 for none, else 1 + the place
unfoldable pub target_of : ℕ → ℕ → ℕ
target_of k v = if (eqb k place_kind) (suc v) 0
