-- What the functions over a table's parts ask of it, in the terms of the code [S The table]. A table that has passed its limits and its
-- length has it, and so has the draft of a text of at most 32,768 bytes, which may be over the limits.
-- Assumes nothing.
use Rattle.std.specs.Prelude.{ℕ, ◌+◌, ◌*◌, ◌≤◌, ◌≡◌, List, length, get_or}

-- the header's counts are small enough to be added up
pub record Limited (t : List ℕ) : Type 0 where
  pub header : 8 ≤ length t
  pub few : get_or t 0 0 ≤ 16384
  pub fresh : get_or t 3 0 ≤ 16384
  pub externals : get_or t 4 0 ≤ 16384
  pub words : get_or t 1 0 + get_or t 2 0 ≤ 32768

-- and the length is exactly what they ask for
pub record Laid (t : List ℕ) : Type 0 where
  pub limits : Limited t
  pub exact : length t ≡ 8 + 8 * get_or t 0 0 + get_or t 3 0 + get_or t 4 0 + get_or t 1 0 + get_or t 2 0
