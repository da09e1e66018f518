-- What the functions over a table ask of it: its entries lie in the slice, and the bodies of its places are found.
-- Assumes nothing.
use Rattle.std.specs.Prelude.{ℕ, ◌+◌, ◌*◌, ◌<◌, ◌≤◌, ◌≡◌, List, length, get_or}
use Rattle.rules.specs.Table.{body_at, size}

-- the n entries of the table t, at most as many as a text has cards, lie in it
pub record Entries (t : List ℕ) (n : ℕ) : Type 0 where
  pub count : n ≡ size t
  pub few : n ≤ 16384
  pub inside : 8 + 8 * n ≤ length t

-- body holds the body of each place of the table t of n entries, and of the place past the last
pub record Filled (t : List ℕ) (n : ℕ) (body : List ℕ) : Type 0 where
  pub room : n < length body
  pub found : (p : ℕ) → p ≤ n → get_or body p 0 ≡ body_at t p
