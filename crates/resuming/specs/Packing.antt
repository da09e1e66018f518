-- The words and links that the code of a step is lent, of a state and back.
-- Assumes nothing.
use Rattle.std.specs.Prelude.{ℕ, ◌+◌, ◌^◌, ◌<◌, ◌≤◌, ◌≡◌, Bool, List, [], length}
use Rattle.base.specs.Test.{Ok}
use Rattle.base.specs.Lists.{◌at◌}
use Rattle.ops.specs.Machine.{max_links}
use Rattle.rules.specs.Check.{table_ok}
use Rattle.rules.specs.Control.{state_at}
use Rattle.rules.specs.State as Rules
use Rattle.rules.specs.State.{Link, state_ok}
use Rattle.states.specs.declared.State.{State}
use Rattle.states.specs.Views.{links_of, state_of}
use Rattle.exec_core.specs.Seen.{open_links}

-- a state beside its memory
abbrev pub bare : List ℕ → ℕ → Bool → List Link → Rules.State
bare z p w ls = state_at (record { words = z; mem = [] }) p w ls

-- the lent words l hold k links of the array ls, and their count
pub record Linked (k : ℕ) (ls l : List ℕ) : Type 0 where
  pub room : length l ≡ max_links + 1
  pub count : l at max_links ≡ k
  pub links : open_links l ≡ links_of k ls

-- the lent words hold at most as many links as a state has room for, and the place is a word
pub record Packable (l : List ℕ) (p : ℕ) : Type 0 where
  pub room : length l ≡ max_links + 1
  pub few : l at max_links ≤ max_links
  pub near : p < 2 ^ 32

-- the table and the state have passed their checks, and the state has room for its links
pub record Passed (t : List ℕ) (s : State) (mem : List ℕ) : Type 0 where
  pub table : Ok (table_ok t)
  pub state : Ok (state_ok t (state_of s mem))
  pub full : length s.links ≡ max_links
