-- What the code of a control operation requires of its place: a checked state on a checked table has it (exec_control/proofs/Ready).
-- Assumes nothing.
use Rattle.std.specs.Prelude.{ℕ, ◌+◌, ◌<◌, ◌≤◌, ◌≡◌, List, length}
use Rattle.base.specs.Test.{Ok}
use Rattle.base.specs.Lists.{◌at◌}
use Rattle.ops.specs.Class.{executes, JSR}
use Rattle.ops.specs.Machine.{max_instrs, max_links}
use Rattle.rules.specs.Table.{entry_at, entry_words, executable, class_at, body_at}
use Rattle.rules.specs.Check.{table_ok}
use Rattle.rules.specs.State.{chain, held, top_link}
use Rattle.exec_core.specs.Seen.{place_of, open_links}

-- the operation n stands at b, where it can be arrived at, in a table that passes its check
pub record Stands (t : List ℕ) (b n : ℕ) : Type 0 where
  pub checked : Ok (table_ok t)
  pub starts : b ≡ entry_at (place_of b)
  pub arrives : Ok (executable t (place_of b))
  pub number : t at b ≡ n
  pub inside : b + entry_words ≤ length t
  pub near : b ≤ entry_at max_instrs

-- a JSR stands at place j of a table that passes its check
pub record Calls (t : List ℕ) (j : ℕ) : Type 0 where
  pub checked : Ok (table_ok t)
  pub jsr : class_at t j ≡ executes JSR
  pub inside : entry_at j + entry_words ≤ length t
  pub few : j < max_instrs

-- at most 256 links, with room for all of them and their count
pub record Few (l : List ℕ) : Type 0 where
  pub count : l at max_links ≤ max_links
  pub room : length l ≡ max_links + 1

-- the links are chained, and the youngest is a call of the procedure that the entry at b stands in
pub record Open (t : List ℕ) (b : ℕ) (l : List ℕ) : Type 0 where
  pub chained : Ok (chain t 0 (open_links l))
  pub covered : Ok (held t (body_at t (place_of b)) (top_link 0 (open_links l)))
