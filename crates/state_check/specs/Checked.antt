-- What the state check asks of a place, and what a check that passes says, in the terms of the code: place p, the first k links of the
-- array l, waiting or not, m words of memory.
-- Assumes nothing.
use Rattle.std.specs.Prelude.{ℕ, ◌+◌, ◌*◌, ◌<◌, ◌≤◌, ◌≡◌, Bool, List, get_or, length, take}
use Rattle.base.specs.Test.{◌and◌, Ok}
use Rattle.rules.specs.State.{chain, held, memory_fits, top_link, wait_ok}
use Rattle.rules.specs.Table.{body_at, executable, fresh_count, externals, size}

-- what the state check asks of the place p with these links: it can be arrived at, is covered, and is an EXP's JSR where the state waits
unfoldable pub placed_ok : List ℕ → ℕ → List ℕ → Bool → Bool
placed_ok t p ls waiting = executable t p and held t (body_at t p) (top_link 0 ls) and wait_ok t p waiting

pub record Checked (t : List ℕ) (p k : ℕ) (l : List ℕ) (w : Bool) (m : ℕ) : Type 0 where
  pub inside : p < size t
  pub arrives : Ok (executable t p)
  pub few : k ≤ 256
  pub chained : Ok (chain t 0 (take k l))
  pub covered : Ok (held t (body_at t p) (top_link 0 (take k l)))
  pub waits : Ok (wait_ok t p w)
  pub fits : Ok (memory_fits t m)

-- place p is the JSR of the EXP v; the word of its exit count, and the place past its exits, lie in the table
pub record Waiting (t : List ℕ) (p v : ℕ) : Type 0 where
  pub number : get_or t (8 + 8 * p) 0 ≡ 109
  pub kind : get_or t (8 + 8 * p + 1) 0 ≡ 23
  pub named : get_or t (8 + 8 * p + 3) 0 ≡ v
  pub external : v < externals t
  pub counted : 8 + 8 * size t + fresh_count t + v < length t
  pub past : p + get_or t (8 + 8 * size t + fresh_count t + v) 0 + 1 < size t
