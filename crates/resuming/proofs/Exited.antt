-- What resume answers: each refusal in its place, and the exit that is taken.
-- Assumes nothing.
use Prim.Native.Nat.{ℕ, ◌-◌, ◌/◌, ◌<◌, ◌≤◌}
use mathlib.Core.Path.{◌≡◌, refl, sym, ap, ◌∙◌}
use mathlib.Core.Bool.{true, false}
use mathlib.Core.List.{List}
use native.Mathlib.Omega.{arith}
use borrow.Author.Tests.{le-ltb, lt-ltb}
use Rattle.base.specs.Test.{Ok, if}
use Rattle.base.proofs.Bool.{and_l, test-true}
use Rattle.ops.specs.Class.{JSR, executes}
use Rattle.ops.proofs.Classes.{is_eq}
use Rattle.rules.specs.Check.{table_ok}
use Rattle.rules.specs.Control.{Exit, exit_of, impossible, land, missing, send, state_at, to_errors, to_place}
use Rattle.rules.specs.Number.{Outcome, Refusal, impossible_exit, not_resumable, resumed, stopped, trap_number}
use Rattle.rules.specs.Run.{answer, arrive_by, ended, perform, refused, resumes, verdict}
use Rattle.rules.specs.State as Rules
use Rattle.rules.specs.State.{Link, state_ok, wait_ok}
use Rattle.rules.specs.Table.{callee, class_at, declared, section6}
use Rattle.rules.proofs.Exits.{ExitOk, exit-ok}
use Rattle.rules.proofs.Facts.{executable-in-table}
use Rattle.rules.proofs.Files.{table-limits}
use Rattle.rules.proofs.Steps.{parts}
use Rattle.states.specs.Views.{code_of, state_of, words_of}
use Rattle.states.specs.declared.State.{State}
use Rattle.exec_core.specs.Views.{toward}
use Rattle.exec_core.specs.Seen.{Seen, seen, stepped}
use Rattle.exec_calls.specs.Shows.{TakesExit, links_after}
use Rattle.exec_calls.specs.Stands.{Calls}
use Rattle.exec_calls.proofs.Called.{calls-of}
use Rattle.resuming.specs.Answers.{Resumes, declining, ends, refuses, report_of}
use Rattle.resuming.specs.Packing.{Linked, Packable, Passed}
use Rattle.resuming.specs.declared.answers.Answer.{Answer}
use Rattle.resuming.specs.declared.waiting.Resumed.{Resumed}
use Rattle.resuming.proofs.Granted.{few-open, left-passes, left-view}

-- an answer that is refused leaves the state as it was
pub resume-refused : (t : List ℕ) (s : State) (mem : List ℕ) (x : ℕ) (r : Resumed) (a : Answer) (e : Refusal) → report_of a ≡ refuses e
    → answer t (state_of s mem) (resumes x) ≡ refused e → r ≡ declining a s → Resumes t s mem x r
resume-refused t s mem x r a e v u h = record { answered = rw (h, v, u); state = rw (h, u) }

-- An exit as its code answers: to the place q, or 26.
data Exited (t : List ℕ) (s : Rules.State) (e : Exit) (r : ℕ) (z' : List ℕ) : Type 0 where
  goes : (q : ℕ) → r ≡ toward q
      → arrive_by t s e ≡ ended resumed 0 (state_at (record { words = z'; mem = s.core.mem }) q false s.links) → Exited t s e r z'
  stays : r ≡ trap_number impossible_exit → arrive_by t s e ≡ ended (stopped impossible_exit) 0 s → Exited t s e r z'

exited : (t : List ℕ) (s : Rules.State) (j r : ℕ) (z' : List ℕ) (ls : List Link) (e : Exit) → ExitOk t j e
    → seen r z' s.core.mem ls ≡ stepped s (land t s s.core (send s.links e)) → Exited t s e r z'
exited t s j r z' ls (to_place q) o h =
    goes q (ap (λ (x : Seen). x.how) h)
    (ap (λ (z : List ℕ). ended resumed 0 (state_at (record { words = z; mem = s.core.mem }) q false s.links))
    (sym (ap (λ (x : Seen). x.words) h)))
exited t s j r z' ls (to_errors c) o h =
    goes _ (ap (λ (x : Seen). x.how) h)
    (ap (λ (z : List ℕ). ended resumed 0 (state_at (record { words = z; mem = s.core.mem }) (section6 t) false s.links))
    (sym (ap (λ (x : Seen). x.words) h)))
exited t s j r z' ls impossible o h = stays (ap (λ (x : Seen). x.how) h) refl
exited t s j r z' ls missing o h = absurd o

-- the place that an answer leads to
went : (t : List ℕ) (s : Rules.State) (e : Exit) (r : ℕ) (z' : List ℕ) → Exited t s e r z' → (r ≡ 26 → ⊥)
    → (72 ≤ r) × (arrive_by t s e ≡ ended resumed 0 (state_at (record { words = z'; mem = s.core.mem }) ((r - 72) / 8) false s.links))
went t s e r z' (goes q i h) n =
    let p : q ≡ (r - 72) / 8 = omega arith in
    (omega arith, h ∙ ap (λ (x : ℕ). ended resumed 0 (state_at (record { words = z'; mem = s.core.mem }) x false s.links)) p)
went t s e r z' (stays i h) n = absurd (n i)

stayed : (t : List ℕ) (s : Rules.State) (e : Exit) (r : ℕ) (z' : List ℕ) → Exited t s e r z' → r ≡ 26
    → arrive_by t s e ≡ ended (stopped impossible_exit) 0 s
stayed t s e r z' (goes q i h) n = absurd (omega arith)
stayed t s e r z' (stays i h) n = h

module _ (t : List ℕ) (s : State) (mem : List ℕ) (y : Passed t s mem) (x : ℕ) where
  abbrev s₀ : Rules.State
  s₀ = state_of s mem

  -- an outcome
  pub resume-ended : (r : Resumed) (a : Answer) (o : Outcome) (s' : Rules.State) → report_of a ≡ ends o
      → answer t s₀ (resumes x) ≡ ended o 0 s' → r ≡ record { answer = a; state = code_of s' } → mem ≡ s'.core.mem → Resumes t s mem x r
  resume-ended r a o s' v u h e =
      record { answered = rw (h, v, u) (ap (ended o 0) (left-view t s mem y (resumes x) o 0 s' mem u e)); state = rw (h, u) }

  -- 33 of a state that does not wait
  pub resume-awake : s.waiting ≡ false → answer t s₀ (resumes x) ≡ refused not_resumable
  unfolding answer verdict if
  resume-awake w = rw (test-true (table_ok t) y.table, test-true (state_ok t s₀) y.state, w)

  module _ (w : s.waiting ≡ true) where
    waits-at : class_at t s.pc ≡ executes JSR
    waits-at =
        let h : Ok (wait_ok t s.pc true) = rw w at (parts t s₀ y.state).waits in
        is_eq _ _ (and_l _ _ h)

    -- a JSR stands there
    pub resume-calls : (j : ℕ) → j ≡ s.pc → Calls t j
    resume-calls j e = rw e (calls-of t s.pc y.table waits-at)

    -- 33 of an exit above the count
    pub resume-above : declared t (callee t s.pc) < x → answer t s₀ (resumes x) ≡ refused not_resumable
    unfolding answer verdict if
    resume-above h = rw (test-true (table_ok t) y.table, test-true (state_ok t s₀) y.state, w, lt-ltb _ _ h)

    module _ (h : x ≤ declared t (callee t s.pc)) where
      arrives : answer t s₀ (resumes x) ≡ arrive_by t s₀ (exit_of t s.pc x)
      unfolding answer verdict perform if
      arrives = rw (test-true (table_ok t) y.table, test-true (state_ok t s₀) y.state, w, le-ltb _ _ h)

      -- The exit is taken by its code from the words z.
      module _ (j r : ℕ) (z z' : List ℕ) (e : j ≡ s.pc) (i : z ≡ words_of s) (d : TakesExit r z' t j x z) where
        taken : Exited t s₀ (exit_of t s.pc x) r z'
        taken =
            let f : TakesExit r z' t s.pc x (words_of s) = rw (e, i) at d in
            exited t s₀ s.pc r z' (links_after r s₀.links s₀.links) (exit_of t s.pc x)
            (exit-ok t y.table s.pc x waits-at h) (f s.pc s.waiting mem s₀.links s₀.links)

        -- 26
        pub resume-stays : r ≡ 26 → answer t s₀ (resumes x) ≡ ended (stopped impossible_exit) 0 s₀
        resume-stays n = arrives ∙ stayed t s₀ (exit_of t s.pc x) r z' taken n

        module _ (n : r ≡ 26 → ⊥) where
          pub resume-goes : answer t s₀ (resumes x) ≡ ended resumed 0 (state_at (record { words = z'; mem = mem }) ((r - 72) / 8) false s₀.links)
          resume-goes = arrives ∙ (went t s₀ (exit_of t s.pc x) r z' taken n).1

          pub resume-high : 72 ≤ r
          resume-high = (went t s₀ (exit_of t s.pc x) r z' taken n).0

          -- what goes on can be packed
          pub resume-packs : (l : List ℕ) → Linked s.count s.links l → Packable l ((r - 72) / 8)
          resume-packs l k =
              let q = parts t _ (left-passes t s mem y (resumes x) _ _ _ resume-goes) in
              record {
                room = k.room;
                few = rw k.count (few-open t s mem y);
                near = omega (arith, executable-in-table t ((r - 72) / 8) q.arrives, table-limits t y.table);
              }
