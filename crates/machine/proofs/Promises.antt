-- What a host may rely on, in terms of the two public functions: `Runs` and `Resumes` are what run and resume ensure.
-- The code's state beside its memory is the state that the rules leave, so all that is proved of the rules' calls holds of the code's.
-- Assumes nothing.
use Prim.Native.Nat.{ℕ}
use mathlib.Core.Path.{◌≡◌, ap}
use mathlib.Core.List.{List}
use native.Mathlib.Omega.{arith}
use Rattle.base.specs.Test.{Ok}
use Rattle.rules.specs.Check.{table_ok}
use Rattle.rules.specs.Number.{Outcome}
use Rattle.rules.specs.Run as Run
use Rattle.rules.specs.Run.{answer, ended, left, nowhere, refused, resumes, runs}
use Rattle.rules.specs.State as Rules
use Rattle.rules.specs.State.{state_ok}
use Rattle.rules.proofs.Runs.{call_passes, resume-keeps}
use Rattle.states.specs.declared.State.{State}
use Rattle.states.specs.Views.{state_of}
use Rattle.resuming.specs.Answers.{Report, Resumes, Runs, answered_by, code_after, ends, refuses, report_of}
use Rattle.resuming.specs.declared.waiting.Resumed.{Resumed}
use Rattle.resuming.specs.declared.answers.Ran.{Ran}

abbrev mark : Run.Answer → ℕ
mark (refused e) = 0
mark (ended o k s) = 1
mark nowhere = 2

-- the state of an answer that is an outcome
state-of : (p : Report) (k : ℕ) (s : Rules.State) (o : Outcome) (n : ℕ) (s' : Rules.State) → answered_by p k s ≡ ended o n s' → s ≡ s'
state-of (ends u) k s o n s' e = ap (left s) e
state-of (refuses u) k s o n s' e = absurd (let z : ◌≡◌ {A = ℕ} 0 1 = ap mark e in omega arith)

-- the code's state afterwards is the one that the answer leaves
left_is : (s c : State) (lent after : List ℕ) (p : Report) (k : ℕ) (a : Run.Answer) → answered_by p k (state_of c after) ≡ a
    → after ≡ (left (state_of s lent) a).core.mem → c ≡ code_after s a → state_of c after ≡ left (state_of s lent) a
left_is s c lent after p k (refused e) u m h = rw (h, m)
left_is s c lent after p k (ended o n s') u m h = state-of p k (state_of c after) o n s' u
left_is s c lent after p k nowhere u m h = rw (h, m)

module _ (t : List ℕ) (s : State) (lent : List ℕ) where
  module _ (k : ℕ) (r : Ran) (after : List ℕ) (done : Runs t s lent k r after) where
    -- a run leaves the state that the rules leave
    pub ran-left : state_of r.state after ≡ left (state_of s lent) (answer t (state_of s lent) (runs k))
    ran-left =
        left_is s r.state lent after (report_of r.answer) r.steps (answer t (state_of s lent) (runs k)) done.answered done.memory
        done.state

    -- which passes its check, so that the next call is not refused by 31
    pub ran-passes : Ok (table_ok t) → Ok (state_ok t (state_of s lent)) → Ok (state_ok t (state_of r.state after))
    ran-passes ok h = rw ran-left (call_passes t (state_of s lent) (runs k) ok h)

  module _ (x : ℕ) (r : Resumed) (done : Resumes t s lent x r) where
    -- a resume leaves the state that the rules leave, in the same memory
    pub resumed-left : state_of r.state lent ≡ left (state_of s lent) (answer t (state_of s lent) (resumes x))
    resumed-left =
        left_is s r.state lent lent (report_of r.answer) 0 (answer t (state_of s lent) (resumes x)) done.answered
        (resume-keeps t (state_of s lent) x) done.state

    -- which passes its check
    pub resumed-passes : Ok (table_ok t) → Ok (state_ok t (state_of s lent)) → Ok (state_ok t (state_of r.state lent))
    resumed-passes ok h = rw resumed-left (call_passes t (state_of s lent) (resumes x) ok h)
