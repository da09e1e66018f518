-- The limits of memory in the terms of the code.
-- Assumes nothing.
use Rattle.std.specs.Prelude.{ℕ, ◌+◌, ◌≤◌, List, get_or}

-- the limits of memory of m words
pub record Memory (t : List ℕ) (m : ℕ) : Type 0 where
  pub least : 256 ≤ m
  pub most : m ≤ 8192
  pub rest : get_or t 1 0 + get_or t 2 0 + 64 ≤ m
