-- What run and resume promise: their answers, the state that they leave, and each word that is lent to them [S Numbers the host sees].
-- Assumes nothing.
use Rattle.std.specs.Prelude.{ℕ, ◌≡◌, List, eqb}
use Rattle.base.specs.Test.{if}
use Rattle.rules.specs.Number.{trap_number, bad_address, constant_write, no_entry, no_case, impossible_exit, links_full, above_count, bad_digit, Outcome, outcome_number, waits, used, resumed, stopped, Refusal, refusal_number, bad_table, bad_state, over_budget, not_resumable}
use Rattle.rules.specs.State as Rules
use Rattle.rules.specs.Run as Run
use Rattle.rules.specs.Run.{answer, ended, left, nowhere, refused, resumes, runs, steps_in}
use Rattle.states.specs.declared.State.{State}
use Rattle.states.specs.Views.{code_of, state_of}
use Rattle.resuming.specs.declared.answers.Answer.{Answer}
use Rattle.resuming.specs.declared.answers.Answer.TheVariants as answers
use Rattle.resuming.specs.declared.waiting.Resumed.{Resumed}
use Rattle.resuming.specs.declared.answers.Ran.{Ran}

-- an outcome of the rules, or a refusal
pub data Report : Type 0 where
  ends : Outcome → Report
  refuses : Refusal → Report

-- each answer's case of the rules
abbrev pub report_of : Answer → Report
report_of answers.Resumed = ends resumed
report_of answers.Waits = ends waits
report_of answers.Used = ends used
report_of answers.BadAddress = ends (stopped bad_address)
report_of answers.ConstantWrite = ends (stopped constant_write)
report_of answers.NoEntry = ends (stopped no_entry)
report_of answers.NoCase = ends (stopped no_case)
report_of answers.ImpossibleExit = ends (stopped impossible_exit)
report_of answers.LinksFull = ends (stopped links_full)
report_of answers.AboveCount = ends (stopped above_count)
report_of answers.BadDigit = ends (stopped bad_digit)
report_of answers.BadTable = refuses bad_table
report_of answers.BadState = refuses bad_state
report_of answers.OverBudget = refuses over_budget
report_of answers.NotResumable = refuses not_resumable

-- its number
abbrev pub report_number : Report → ℕ
report_number (ends o) = outcome_number o
report_number (refuses e) = refusal_number e

-- the outcome with the number n
unfoldable pub outcome_by : ℕ → Outcome
outcome_by n =
    if (eqb n (outcome_number waits)) waits (if (eqb n (outcome_number used)) used
    (if (eqb n (trap_number bad_address)) (stopped bad_address) (if (eqb n (trap_number constant_write)) (stopped constant_write)
    (if (eqb n (trap_number no_entry)) (stopped no_entry) (if (eqb n (trap_number no_case)) (stopped no_case)
    (if (eqb n (trap_number impossible_exit)) (stopped impossible_exit) (if (eqb n (trap_number links_full)) (stopped links_full)
    (if (eqb n (trap_number above_count)) (stopped above_count) (if (eqb n (trap_number bad_digit)) (stopped bad_digit) resumed)))))))))

-- the rules' view of an answer, with its steps and the state that it leaves
abbrev pub answered_by : Report → ℕ → Rules.State → Run.Answer
answered_by (ends o) k s = ended o k s
answered_by (refuses e) k s = refused e

abbrev pub ran_of : Ran → List ℕ → Run.Answer
ran_of r mem = answered_by (report_of r.answer) r.steps (state_of r.state mem)

-- the code's state afterwards: that which an outcome leaves, with 0 behind its links, or the one that was lent
abbrev pub code_after : State → Run.Answer → State
code_after s (refused e) = s
code_after s (ended o k s') = code_of s'
code_after s nowhere = s

abbrev pub refusing : Answer → State → Ran
refusing a s = record { answer = a; steps = 0; state = s }

-- run's promise: its answer, its steps, the lent memory and the state are those of the definition, refusals included.
-- Two wrong answers that it rules out: a step too many, and a JSR to an EXP that is not counted.
pub record Runs (t : List ℕ) (s : State) (lent : List ℕ) (k : ℕ) (r : Ran) (after : List ℕ) : Type 0 where
  pub answered : ran_of r after ≡ answer t (state_of s lent) (runs k)
  pub steps : r.steps ≡ steps_in (answer t (state_of s lent) (runs k))
  pub memory : after ≡ (left (state_of s lent) (answer t (state_of s lent) (runs k))).core.mem
  pub state : r.state ≡ code_after s (answer t (state_of s lent) (runs k))

-- a resume takes no step, and its memory is the lent one
abbrev pub resumed_of : Resumed → List ℕ → Run.Answer
resumed_of r mem = answered_by (report_of r.answer) 0 (state_of r.state mem)

abbrev pub declining : Answer → State → Resumed
declining a s = record { answer = a; state = s }

-- resume's promise: its answer and the state are those of the definition, refusals included.
-- Two wrong answers that it rules out: a state that still waits where the exit has a place, and an exit above the count that is taken.
pub record Resumes (t : List ℕ) (s : State) (mem : List ℕ) (x : ℕ) (r : Resumed) : Type 0 where
  pub answered : resumed_of r mem ≡ answer t (state_of s mem) (resumes x)
  pub state : r.state ≡ code_after s (answer t (state_of s mem) (resumes x))
