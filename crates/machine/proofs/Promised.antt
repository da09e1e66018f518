-- What run answers: its refusals, and the outcomes of the rules with the state that they leave.
-- Assumes nothing.
use Prim.Native.Nat.{ℕ, ◌-◌, ◌<◌, ◌≤◌}
use mathlib.Core.Path.{◌≡◌, refl, sym, ap, ◌∙◌}
use mathlib.Core.Bool.{Bool, true, false, cond}
use mathlib.Core.List.{List}
use native.Mathlib.Omega.{arith}
use borrow.Author.Tests.{lt-ltb}
use lib.ListN.{length}
use Rattle.base.specs.Test.{if}
use Rattle.base.proofs.Bool.{test-true}
use Rattle.ops.specs.Machine.{max_budget}
use Rattle.rules.specs.Check.{table_ok}
use Rattle.rules.specs.Control.{state_at}
use Rattle.rules.specs.Number.{Outcome, waits, Refusal, over_budget}
use Rattle.rules.specs.Run.{answer, ended, ran, refused, runs, steps, verdict}
use Rattle.rules.specs.State as Rules
use Rattle.rules.specs.State.{Link, state_ok}
use Rattle.rules.specs.Table.{constants, entry_at}
use Rattle.rules.proofs.Facts.{executable-in-table}
use Rattle.rules.proofs.Files.{table-limits}
use Rattle.rules.proofs.Loops.{answer-ran}
use Rattle.rules.proofs.Steps.{Parts, parts}
use Rattle.states.specs.Views.{code_of, state_of, words_of}
use Rattle.states.specs.declared.State.{State}
use Rattle.exec_core.specs.Seen.{Running, open_links, place_of, state_by}
use Rattle.exec_core.proofs.Steps.{place-of}
use Rattle.dispatch.proofs.After.{few-of}
use Rattle.resuming.specs.Answers.{Runs, ends, refuses, outcome_by, refusing, report_of}
use Rattle.machine.specs.Halting.{Halts, steps_taken_of, halted_at}
use Rattle.resuming.specs.Packing.{Linked, Packable, Passed}
use Rattle.resuming.specs.declared.answers.Answer.{Answer}
use Rattle.resuming.specs.declared.answers.Ran.{Ran}
use Rattle.machine.specs.declared.steps.Halted.{Halted}
use Rattle.resuming.proofs.Granted.{few-open, left-passes, left-view}

-- an answer that is refused leaves all as it was
pub run-refused : (t : List ℕ) (s : State) (lent : List ℕ) (k : ℕ) (r : Ran) (a : Answer) (e : Refusal) → report_of a ≡ refuses e
    → answer t (state_of s lent) (runs k) ≡ refused e → r ≡ refusing a s → Runs t s lent k r lent
run-refused t s lent k r a e v u h = record { answered = rw (h, v, u); steps = rw (h, u); memory = rw u; state = rw (h, u) }

module _ (t : List ℕ) (s : State) (lent : List ℕ) (y : Passed t s lent) where
  abbrev s₀ : Rules.State
  s₀ = state_of s lent

  -- an outcome
  pub run-ended : (k : ℕ) (r : Ran) (after : List ℕ) (a : Answer) (o : Outcome) (n : ℕ) (s' : Rules.State) → report_of a ≡ ends o
      → answer t s₀ (runs k) ≡ ended o n s' → r ≡ record { answer = a; steps = n; state = code_of s' } → after ≡ s'.core.mem
      → Runs t s lent k r after
  run-ended k r after a o n s' v u h e =
      record {
        answered = rw (h, v, u) (ap (ended o n) (left-view t s lent y (runs k) o n s' after u e));
        steps = rw (h, u);
        memory = rw u e;
        state = rw (h, u);
      }

  -- 32
  pub over-budget : (k : ℕ) → max_budget < k → answer t s₀ (runs k) ≡ refused over_budget
  unfolding answer verdict if
  over-budget k h = rw (test-true (table_ok t) y.table, test-true (state_ok t s₀) y.state, lt-ltb max_budget k h)

  -- a state that waits answers at once, and one that does not takes its steps
  pub run-waits : (k : ℕ) → k ≤ max_budget → s.waiting ≡ true → answer t s₀ (runs k) ≡ ended waits 0 s₀
  unfolding ran
  run-waits k h w = answer-ran t k s₀ y.table y.state h ∙ ap (λ (b : Bool). cond b (ended waits 0 s₀) (steps t k s₀)) w

  pub run-awake : (k : ℕ) → k ≤ max_budget → s.waiting ≡ false → answer t s₀ (runs k) ≡ steps t k s₀
  unfolding ran
  run-awake k h w = answer-ran t k s₀ y.table y.state h ∙ ap (λ (b : Bool). cond b (ended waits 0 s₀) (steps t k s₀)) w

  -- The state unpacked: at the entry from, with the words z and the links l.
  module _ (from : ℕ) (z l : List ℕ) (w : s.waiting ≡ false) (e : from ≡ entry_at s.pc) (i : z ≡ words_of s) (x : Linked s.count s.links l) where
    pub unpacked-state : state_by from z lent (open_links l) ≡ s₀
    unpacked-state =
        ap (λ (p : ℕ). state_at (record { words = z; mem = lent }) p false (open_links l)) (place-of from s.pc e)
        ∙ ap (λ (v : List ℕ). state_at (record { words = v; mem = lent }) s.pc false (open_links l)) i
        ∙ ap (λ (b : Bool). state_at (record { words = words_of s; mem = lent }) s.pc b (open_links l)) (sym w)
        ∙ ap (λ (ls : List Link). state_at (record { words = words_of s; mem = lent }) s.pc s.waiting ls) x.links

    pub unpacked-runs : (c : ℕ) → c ≡ constants t → Running t from z lent l c
    unpacked-runs c f =
        record {
          checked = y.table;
          starts = e ∙ ap entry_at (sym (place-of from s.pc e));
          passes = rw unpacked-state y.state;
          room = x.room;
          few = rw x.count (few-open t s lent y);
          fixed = f;
          zero = rw i refl;
        }

    module _ (k : ℕ) (h : k ≤ max_budget) (r : Halted) (z' m' l' : List ℕ) (d : Halts t from k z lent l r z' m' l') where
      -- the run ends where the loop halts
      pub halted-answer : answer t s₀ (runs k) ≡ ended (outcome_by r.how) (steps_taken_of r.how (k - r.left)) (halted_at r z' m' (open_links l'))
      halted-answer = run-awake k h w ∙ ap (steps t k) (sym unpacked-state) ∙ d.ended

      -- and what stands there can be packed
      pub halted-packs : Packable l' (place_of r.b)
      halted-packs =
          let q : Parts t (halted_at r z' m' (open_links l')) = parts t (halted_at r z' m' (open_links l')) (left-passes t s lent y (runs k) _ _ _ halted-answer) in
          let room : length l' ≡ 257 = d.room ∙ x.room in
          record {
            room = room;
            few = few-of l' room q.few;
            near = omega (arith, executable-in-table t (place_of r.b) q.arrives, table-limits t y.table);
          }
