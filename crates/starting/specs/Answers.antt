-- What start promises: its answer, its state, and each word that is lent to it [S The house machine], once over both starts [02 Wish 6].
-- Assumes nothing.
use Rattle.std.specs.Prelude.{ℕ, ◌+◌, ◌≡◌, List, Result, Ok, Err}
use Rattle.rules.specs.Number.{Refusal, Verdict, granted, refused_by, bad_table, unfit_memory, fresh_count_off}
use Rattle.rules.specs.State as Rules
use Rattle.rules.specs.Start as Start
use Rattle.rules.specs.Start.{begun, memory_begun, plain, start_of, unbegun, warm}
use Rattle.rules.specs.Table.{constants, workings}
use Rattle.states.specs.declared.State.{State}
use Rattle.states.specs.Views.{blank, code_of, state_of}
use Rattle.starting.specs.declared.StartError.{StartError}
use Rattle.starting.specs.declared.StartError.TheVariants.{BadTable, UnfitMemory, FreshCountOff}
use Rattle.starting.specs.declared.Mode.{Mode}
use Rattle.starting.specs.declared.Mode.TheVariants.{Plain, Warm}

-- each refusal's case of the rules
abbrev pub refusal_of : StartError → Refusal
refusal_of BadTable = bad_table
refusal_of UnfitMemory = unfit_memory
refusal_of FreshCountOff = fresh_count_off

-- each answer's, whatever it gives beside
abbrev pub verdict_of : {A : Type 0} → Result A StartError → Verdict
verdict_of (Ok s) = granted
verdict_of (Err e) = refused_by (refusal_of e)

-- the state of an answer; a refusal has none, and blank stands for it
abbrev pub state_in : Result State StartError → State
state_in (Ok s) = s
state_in (Err e) = blank

-- the rules' view of an answer, with the state that it has if the program has begun
abbrev pub started_by : Verdict → Rules.State → Start.Started
started_by granted s = begun s
started_by (refused_by e) s = unbegun e

abbrev pub started_of : Result State StartError → List ℕ → Start.Started
started_of r mem = started_by (verdict_of r) (state_of (state_in r) mem)

-- a state as an answer, and a refusal
abbrev pub beginning : State → Result State StartError
beginning s = Ok s

abbrev pub refusing : StartError → Result State StartError
refusing e = Err e

-- the code's state afterwards: the started machine's, or blank
abbrev pub state_begun : Start.Started → State
state_begun (begun s) = code_of s
state_begun (unbegun e) = blank

-- each mode as the rules have it
abbrev pub mode_of : Mode → Start.Mode
mode_of Plain = plain
mode_of Warm = warm

-- how many words of a memory of len are kept, from the first on: the program's own, or all
abbrev pub kept_in : Start.Mode → List ℕ → ℕ → ℕ
kept_in plain t len = constants t + workings t
kept_in warm t len = len

-- start's promise in this mode: its answer and machine, the lent memory and the state are those of the definition, refusals included.
-- Two wrong answers that it rules out: a lent word behind the program's own that a warm start clears or a plain one leaves, and 43 where memory does
-- not fit either.
pub record Starts (k : Start.Mode) (t lent fs : List ℕ) (x : ℕ) (r : Result State StartError) (after : List ℕ) : Type 0 where
  pub answer : started_of r after ≡ start_of k t lent fs x
  pub memory : after ≡ memory_begun (start_of k t lent fs x) lent
  pub state : state_in r ≡ state_begun (start_of k t lent fs x)
