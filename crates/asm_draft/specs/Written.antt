-- Words written into a list.
-- Assumes nothing.
use Rattle.std.specs.Prelude.{ℕ, ◌+◌, ◌≡◌, List, ◌++◌, drop, length, take}

-- `new` is `old` with ws from place w on; they end at v
pub record Written (old : List ℕ) (w : ℕ) (ws new : List ℕ) (v : ℕ) : Type 0 where
  pub same : length new ≡ length old
  pub past : v ≡ w + length ws
  pub front : take v new ≡ take w old ++ ws
  pub kept : drop v new ≡ drop v old
