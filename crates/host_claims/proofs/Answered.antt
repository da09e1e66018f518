-- What a run and a resume answer on a table and a state that pass: the ending that is listed, or the one refusal that is left.
-- Assumes nothing.
use Prim.Native.Nat.{ℕ, zero, suc, ◌≤◌}
use mathlib.Core.Path.{◌≡◌, refl, ◌∙◌}
use mathlib.Core.Bool.{Bool, true, false, cond}
use mathlib.Core.List.{List}
use native.Mathlib.Omega.{arith}
use lib.Dec.{leb, ltb}
use borrow.Author.Tests.{le-leb, lt-leb, ltb-false, ltb-true}
use Rattle.base.specs.Test.{◌and◌, if, Ok}
use Rattle.base.proofs.Bool.{test-true}
use Rattle.ops.specs.Machine.{max_budget}
use Rattle.rules.specs.Number.{Outcome, granted, not_resumable, outcome_number, over_budget, waits}
use Rattle.rules.specs.Table.{callee, declared}
use Rattle.rules.specs.Check.{table_ok}
use Rattle.rules.specs.Claim.{ending, resuming}
use Rattle.rules.specs.Control.{Step, awaits, next, step, stuck, traps}
use Rattle.rules.specs.Run.{Answer, Call, answer, ended, nowhere, of_call, one_more, onward, perform, ran, refused, resumes, runs, steps, steps_in, verdict}
use Rattle.rules.specs.State.{State, state_ok}
use Rattle.rules.proofs.Runs.{Ended, performed}
use Rattle.rules.proofs.Steps.{parts, real-part, sound}

-- A run takes at most as many steps as its budget says.

more-steps : (a : Answer) (k : ℕ) → steps_in a ≤ k → steps_in (one_more a) ≤ suc k
more-steps (refused e) k h = omega arith
more-steps (ended o n s) k h = omega arith
more-steps nowhere k h = omega arith

steps-most : (t : List ℕ) (k : ℕ) (s : State) → steps_in (steps t k s) ≤ k
unfolding steps
steps-most t zero s = omega arith
steps-most t (suc k) s = go (step t s) (λ s'. steps-most t k s')
  where
    go : (r : Step) → ((s' : State) → steps_in (steps t k s') ≤ k) → steps_in (onward s (λ s'. steps t k s') r) ≤ suc k
    go (next s') h = more-steps (steps t k s') k (h s')
    go (awaits s') h = omega arith
    go (traps e) h = omega arith
    go stuck h = omega arith

ran-most : (t : List ℕ) (k : ℕ) (s : State) → steps_in (perform t s (runs k)) ≤ k
unfolding perform ran
ran-most t k s = go s.waiting
  where
    go : (w : Bool) → steps_in (cond w (ended waits 0 s) (steps t k s)) ≤ k
    go true = omega arith
    go false = steps-most t k s

-- The answers.

pub data RunAnswer (t : List ℕ) (s : State) (k : ℕ) : Type 0 where
  over : ltb max_budget k ≡ true → answer t s (runs k) ≡ refused over_budget → RunAnswer t s k
  within : ltb max_budget k ≡ false → (o : Outcome) (n : ℕ) (s' : State) → answer t s (runs k) ≡ ended o n s' → Ok (ending (outcome_number o)) → n ≤ k
      → RunAnswer t s k

-- the state waits, and the exit is at most the declared count
abbrev pub resumable : List ℕ → State → ℕ → Bool
resumable t s x = s.waiting and leb x (declared t (callee t s.pc))

pub data ResumeAnswer (t : List ℕ) (s : State) (x : ℕ) : Type 0 where
  off : resumable t s x ≡ false → answer t s (resumes x) ≡ refused not_resumable → ResumeAnswer t s x
  taken : resumable t s x ≡ true → (o : Outcome) (n : ℕ) (s' : State) → answer t s (resumes x) ≡ ended o n s' → Ok (resuming (outcome_number o))
      → ResumeAnswer t s x

module _ (t : List ℕ) (s : State) (ok : Ok (table_ok t)) (fine : Ok (state_ok t s)) where
  verdict-is : (c : Call) → verdict t s c ≡ of_call t s c
  unfolding verdict if
  verdict-is c = rw (test-true _ ok, test-true _ fine)

  answer-granted : (c : Call) → of_call t s c ≡ granted → answer t s c ≡ perform t s c
  unfolding answer
  answer-granted c e = rw (verdict-is c ∙ e)

  pub ends : (c : Call) → of_call t s c ≡ granted → Ended c (perform t s c)
  ends c e = (performed t ok s s.links (sound t ok s s.links (parts t s fine) (real-part t s fine) refl) c (verdict-is c ∙ e)).ends

  pub run-answer : (k : ℕ) → RunAnswer t s k
  unfolding answer if
  run-answer k = go (ltb max_budget k) refl
    where
      by_answer : ltb max_budget k ≡ false → (a : Answer) → answer t s (runs k) ≡ a → Ended (runs k) a → steps_in a ≤ k → RunAnswer t s k
      by_answer b (refused e) p h l = absurd h
      by_answer b (ended o n s') p h l = within b o n s' p h l
      by_answer b nowhere p h l = absurd h

      go : (b : Bool) → ltb max_budget k ≡ b → RunAnswer t s k
      go true b = over b (rw (verdict-is (runs k), b))
      go false b =
          let g : of_call t s (runs k) ≡ granted = rw b in
          by_answer b (perform t s (runs k)) (answer-granted (runs k) g) (ends (runs k) g) (ran-most t k s)

  pub resume-answer : (x : ℕ) → ResumeAnswer t s x
  unfolding answer if ◌and◌
  resume-answer x = go s.waiting refl (ltb (declared t (callee t s.pc)) x) refl
    where
      by_answer : resumable t s x ≡ true → (a : Answer) → answer t s (resumes x) ≡ a → Ended (resumes x) a → ResumeAnswer t s x
      by_answer b (refused e) p h = absurd h
      by_answer b (ended o n s') p h = taken b o n s' p h
      by_answer b nowhere p h = absurd h

      go : (w : Bool) → s.waiting ≡ w → (l : Bool) → ltb (declared t (callee t s.pc)) x ≡ l → ResumeAnswer t s x
      go false p l q = off (rw p) (rw (verdict-is (resumes x), p))
      go true p true q = off (rw (p, lt-leb _ _ (ltb-true _ _ q))) (rw (verdict-is (resumes x), p, q))
      go true p false q =
          let g : of_call t s (resumes x) ≡ granted = rw (p, q) in
          by_answer (rw (p, le-leb _ _ (ltb-false _ _ q))) (perform t s (resumes x)) (answer-granted (resumes x) g) (ends (resumes x) g)
