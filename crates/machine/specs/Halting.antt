-- Where a run's loop halts: the number of its ending, where it stands, and what is left of its budget.
-- Assumes nothing.
use Rattle.std.specs.Prelude.{ℕ, ◌+◌, ◌-◌, ◌≤◌, ◌≡◌, List, eqb, length}
use Rattle.base.specs.Test.{if}
use Rattle.rules.specs.Control.{state_at}
use Rattle.rules.specs.Number.{outcome_number, waits}
use Rattle.rules.specs.Run as Run
use Rattle.rules.specs.State.{State, Link}
use Rattle.rules.specs.Table.{entry_at}
use Rattle.exec_core.specs.Seen.{open_links, place_of, state_by}
use Rattle.resuming.specs.Answers.{outcome_by}
use Rattle.machine.specs.declared.steps.Halted.{Halted}

-- the steps of a run that took i of them before its last attempt
unfoldable pub steps_taken_of : ℕ → ℕ → ℕ
steps_taken_of how i = if (eqb how (outcome_number waits)) (i + 1) i

-- the state there: it waits where its ending says so
abbrev pub halted_at : Halted → List ℕ → List ℕ → List Link → State
halted_at r z m ls = state_at (record { words = z; mem = m }) (place_of r.b) (eqb r.how (outcome_number waits)) ls

-- the run of the rules ends so, at an entry, with no more left than there was, and the links keep their room
pub record Halts (t : List ℕ) (from budget : ℕ) (z m l : List ℕ) (r : Halted) (z' m' l' : List ℕ) : Type 0 where
  pub ended : Run.steps t budget (state_by from z m (open_links l)) ≡ Run.ended (outcome_by r.how) (steps_taken_of r.how (budget - r.left)) (halted_at r z' m' (open_links l'))
  pub starts : r.b ≡ entry_at (place_of r.b)
  pub rest : r.left ≤ budget
  pub room : length l' ≡ length l
