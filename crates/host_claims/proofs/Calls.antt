-- Demand 3 over the functions that a host calls, proved from their promises and from demand 3 of the rules.
-- Assumes nothing.
use Prim.Native.Nat.{ℕ, ◌+◌, ◌/◌, ◌%◌, ◌^◌, ◌<◌, ◌≤◌}
use mathlib.Core.Path.{◌≡◌, refl, sym, ap, ◌∙◌}
use mathlib.Core.List.{List, [], ◌∷◌}
use native.Mathlib.Omega.{arith}
use lib.ListN.{drop}
use borrow.Author.Tests.{ltb-false}
use Rattle.base.specs.Test.{◌or◌, if, Ok}
use Rattle.base.specs.Lists.{◌at◌}
use Rattle.base.proofs.Bool.{and_i, and_r, eq-ok, le-ok, ok-le, test-true}
use Rattle.ops.specs.Machine.{max_budget}
use Rattle.rules.specs.Number.{Refusal, not_resumable, outcome_number, over_budget, upper}
use Rattle.rules.specs.Claim.{CallClaim, Sound, ending, resuming}
use Rattle.rules.specs.Run as Run
use Rattle.rules.specs.Run.{Call, answer, ended, left, nowhere, refused, resumes, runs, steps_in}
use Rattle.rules.specs.State as Rules
use Rattle.rules.specs.State.{Link, state_ok}
use Rattle.rules.proofs.Files.{state-limits}
use Rattle.rules.proofs.Runs.{call_ok, call_passes, ended-passes}
use Rattle.rules.proofs.Steps.{parts, real-part, sound}
use Rattle.states.specs.Views.{code_of}
use Rattle.lent.specs.Lent.{lawful, state_from}
use Rattle.host_claims.specs.Running.{call_number, words_left}
use Rattle.host_claims.specs.Calls.{AllPromised, HostCallClaim, HostCallClaims, HostCalls, Made, Promised, listed, memory_written, refusal_of, told_by, words_written}
use Rattle.host_claims.proofs.Answered.{ResumeAnswer, RunAnswer, off, over, resume-answer, run-answer, taken, within}
use Rattle.host_claims.proofs.Checked.{Checked, checked-number, lawful-length, lawful-words, links-taken, number-checked, writes-state, written-checked}
use Rattle.host_claims.proofs.Machines.{full-links, words-answer}

-- the words left are a state
left-lawful : (t ws mem : List ℕ) (c : Call) (words : List ℕ) → Checked t ws mem → words ≡ words_left (answer t (state_from ws mem) c) ws → Ok (lawful words)
left-lawful t ws mem c words h = go (answer t (state_from ws mem) c) refl
  where
    go : (a : Run.Answer) → answer t (state_from ws mem) c ≡ a → words ≡ words_left a ws → Ok (lawful words)
    go (refused e) p w = rw w h.is_state
    go nowhere p w = rw w h.is_state
    go (ended o k s) p w =
        let fine : Ok (state_ok t s) = ended-passes t (state_from ws mem) c o k s h.table h.state p in
        rw w (lawful-words (code_of s) (drop 270 ws) (full-links s (state-limits t s fine).few))

-- The numbers.

-- an ending and its steps in one answer, apart again
halves : (n k : ℕ) → k < 2 ^ 32 → ((upper n + k) / 2 ^ 32 ≡ n) × ((upper n + k) % 2 ^ 32 ≡ k)
halves n k h = (omega arith, omega arith)

ending-low : (n : ℕ) → Ok (ending n) → n ≤ 29
unfolding ending
ending-low n h = ok-le _ _ (and_r _ _ h)

resuming-low : (n : ℕ) → Ok (resuming n) → n ≡ 33 → ⊥
unfolding resuming Ok ◌or◌
resuming-low n h e = rw e at h

-- the answer is a refusal
record Refuses (a : Run.Answer) : Type 0 where
  pub why : Refusal
  pub is : a ≡ refused why

-- one call: words and memory lent, what came of it, and what the rules say of the state that the words are
module _ (t ws mem : List ℕ) (h : Checked t ws mem) where
  run-listed : (k r : ℕ) → r ≡ upper (call_number (answer t (state_from ws mem) (runs k))) + steps_in (answer t (state_from ws mem) (runs k))
      → Ok (listed t ws (runs k) r) × (r ≡ upper 32 → Refuses (answer t (state_from ws mem) (runs k)))
  unfolding listed if
  run-listed k r e = go (run-answer t (state_from ws mem) h.table h.state k)
    where
      go : RunAnswer t (state_from ws mem) k → Ok (listed t ws (runs k) r) × (r ≡ upper 32 → Refuses (answer t (state_from ws mem) (runs k)))
      go (over b p) = (rw b (eq-ok _ _ (e ∙ rw p)), λ z. record { why = over_budget; is = p })
      go (within b o n s p d l) =
          let small : n < 2 ^ 32 = omega (arith, ltb-false max_budget k b) in
          let q : r ≡ upper (outcome_number o) + n = e ∙ rw p in
          let v = halves (outcome_number o) n small in
          (rw (b, q, v.0, v.1) (and_i _ _ d (le-ok _ _ l)), λ z. absurd (omega (arith, q, z, ending-low _ d)))

  resume-listed : (x r : ℕ) → r ≡ call_number (answer t (state_from ws mem) (resumes x))
      → Ok (listed t ws (resumes x) r) × (r ≡ 33 → Refuses (answer t (state_from ws mem) (resumes x)))
  unfolding listed if
  resume-listed x r e = go (resume-answer t (state_from ws mem) h.table h.state x)
    where
      go : ResumeAnswer t (state_from ws mem) x → Ok (listed t ws (resumes x) r) × (r ≡ 33 → Refuses (answer t (state_from ws mem) (resumes x)))
      go (off b p) = (rw b (eq-ok _ _ (e ∙ rw p)), λ z. record { why = not_resumable; is = p })
      go (taken b o n s p d) = let q : r ≡ outcome_number o = e ∙ rw p in (rw (b, q) d, λ z. absurd (resuming-low _ d (sym q ∙ z)))

  -- what the promise of the function that was called says, in terms of the rules' answer
  record Told (c : Call) (m : Made) : Type 0 where
    pub number : Ok (listed t ws c m.number) × (m.number ≡ refusal_of c → Refuses (answer t (state_from ws mem) c))
    pub told : m.number ≡ told_by c (answer t (state_from ws mem) c)
    pub state : m.words ≡ words_left (answer t (state_from ws mem) c) ws
    pub machine : state_from m.words m.memory ≡ left (state_from ws mem) (answer t (state_from ws mem) c)

  told : (c : Call) (m : Made) → Promised t ws mem c m → Told c m
  told (runs k) m p =
      let u = words-answer t ws mem (runs k) (test-true _ h.is_state) in
      record { number = run-listed k m.number (p.number ∙ rw u); told = p.number ∙ rw u; state = p.state ∙ rw u; machine = p.machine ∙ rw u }
  told (resumes x) m p =
      let u = words-answer t ws mem (resumes x) (test-true _ h.is_state) in
      record {
        number = resume-listed x m.number (p.0.number ∙ rw u);
        told = p.0.number ∙ rw u;
        state = p.0.state ∙ rw u;
        machine = ap (state_from m.words) p.1 ∙ p.0.machine ∙ rw u;
      }

  -- what is left passes
  left-checked : (m : Made) → Told m.call m → Checked t m.words m.memory
  left-checked m k =
      record {
        table = h.table;
        is_state = left-lawful t ws mem m.call m.words h k.state;
        state = rw k.machine (call_passes t (state_from ws mem) m.call h.table h.state);
      }

  -- a refused call leaves all as it was
  kept : (m : Made) → Told m.call m → Refuses (answer t (state_from ws mem) m.call) → (m.words ≡ ws) × (m.memory ≡ mem)
  kept m k z = (
    k.state ∙ ap (λ (a : Run.Answer). words_left a ws) z.is,
    ap (λ (s : Rules.State). s.core.mem) (k.machine ∙ ap (left (state_from ws mem)) z.is),
  )

  call-claim : (b : List Link) → Sound t (state_from ws mem) b → (m : Made) → Promised t ws mem m.call m → HostCallClaim t ws mem b m
  call-claim b z m p =
      let k = told m.call m p in
      let c : CallClaim t (state_from ws mem) b m.call = call_ok t h.table (state_from ws mem) b z m.call in
      let g = left-checked m k in
      record {
        number = k.number.0;
        told = k.told;
        refused_keeps = λ e. kept m k (k.number.1 e);
        passes = checked-number t m.words m.memory g;
        links_are_calls = sym (links-taken t m.words m.memory g) ∙ ap (λ (s : Rules.State). s.links) k.machine ∙ c.sound.links_are_calls;
        machine = k.machine;
        rules = c;
      }

-- the list
calls-claim : (t : List ℕ) (ms : List Made) (ws mem : List ℕ) (b : List Link) → Checked t ws mem → (state_from ws mem).links ≡ b → AllPromised t ws mem ms
    → HostCallClaims t ws mem b ms
calls-claim t [] ws mem b h e p = tt
calls-claim t (m ∷ ms) ws mem b h e p =
    let ws₁ : List ℕ = words_written ws m.writes in
    let mem₁ : List ℕ = memory_written mem m.writes in
    let g : Checked t ws₁ mem₁ = written-checked t ws mem m.writes h in
    let same : (state_from ws₁ mem₁).links ≡ b = ap (λ (s : Rules.State). s.links) (writes-state m.writes ws mem (omega (arith, lawful-length ws h.is_state))) ∙ e in
    let c = call-claim t ws₁ mem₁ g b (sound t h.table (state_from ws₁ mem₁) b (parts t (state_from ws₁ mem₁) g.state) (real-part t (state_from ws₁ mem₁) g.state) same) m p.0 in
    let left-links = ap (λ (s : Rules.State). s.links) c.machine ∙ c.rules.sound.links_are_calls in
    (c, calls-claim t ms m.words m.memory _ (number-checked t m.words m.memory c.passes) left-links p.1)

pub host-calls : HostCalls
unfolding HostCalls
host-calls t ws mem ms h p = let g = number-checked t ws mem h in calls-claim t ms ws mem _ g (links-taken t ws mem g) p
