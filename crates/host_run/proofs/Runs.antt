-- What run answers is what a host is told, and its words are those of the state that is left.
-- Assumes nothing.
use Prim.Native.Nat.{ℕ, ◌+◌, ◌<◌, ◌≤◌}
use mathlib.Core.Path.{◌≡◌, sym, ap, ◌∙◌}
use mathlib.Core.Bool.{true, false}
use mathlib.Core.List.{List, ◌++◌}
use native.Mathlib.Omega.{arith}
use lib.ListN.{drop}
use Rattle.rules.specs.Number.{upper}
use Rattle.rules.specs.Run.{runs}
use Rattle.states.specs.declared.State.{State}
use Rattle.resuming.specs.Answers as Machine
use Rattle.resuming.specs.declared.answers.Answer as Ran
use Rattle.lent.specs.Lent.{code_from, lawful, words_from}
use Rattle.host_claims.specs.Running.{HostRuns, call_number, call_words, unread_number, words_left}
use Rattle.host_claims.proofs.Known.{Known, are_words}
use Rattle.host_claims.proofs.Machines.{left-machine, words-answer}
use Rattle.host_words.proofs.Told.{kept, put, told, words-unread}

module _ (t ws mem : List ℕ) (k : ℕ) where
  -- words that are no state
  pub host-unrun : lawful ws ≡ false → Known mem → Known ws → HostRuns t ws mem (runs k) (upper (unread_number t)) mem ws
  host-unrun a y z =
      let u = words-unread t ws mem (runs k) a in
      record {
        number = ap upper u.0 ∙ rw u.1 (omega arith);
        memory = sym u.2;
        state = sym u.3;
        machine = left-machine t ws mem (runs k) mem ws (sym u.2) (sym u.3);
        memory_words = are_words mem y;
        state_words = are_words ws z;
      }

  module _ (s : State) (a : Ran.Answer) (i : ℕ) (c : State) (after : List ℕ) (ok : lawful ws ≡ true) (e : s ≡ code_from ws)
      (g : Machine.Runs t s mem k (record { answer = a; steps = i; state = c }) after) where
    by-words : Machine.Runs t (code_from ws) mem k (record { answer = a; steps = i; state = c }) after
    by-words = rw e at g

    host-ran : (n : ℕ) (words : List ℕ) → n ≡ call_number (call_words t ws mem (runs k)) → words ≡ words_left (call_words t ws mem (runs k)) ws
        → Known after → Known words → HostRuns t ws mem (runs k) (upper n + i) after words
    host-ran n words q w y z =
        let u = words-answer t ws mem (runs k) ok in
        let h = by-words in
        record {
          number = ap (λ (y : ℕ). upper y + i) q ∙ ap (λ (y : ℕ). upper (call_number (call_words t ws mem (runs k))) + y) (h.steps ∙ rw u);
          memory = h.memory ∙ rw u;
          state = w;
          machine = left-machine t ws mem (runs k) after words (h.memory ∙ rw u) w;
          memory_words = are_words after y;
          state_words = are_words words z;
        }

    -- an ending, with the state's words put in front; a refusal, with the words as they were
    pub host-ended : (n : ℕ) (words : List ℕ) → n ≡ Machine.report_number (Machine.report_of a) → n < 30 → words ≡ words_from c ++ drop 270 ws → Known after
        → Known words → HostRuns t ws mem (runs k) (upper n + i) after words
    host-ended n words q l w y z =
        let h = by-words in
        host-ran n words (told t ws mem (runs k) ok a i _ h.answered n q) (put t ws mem (runs k) ok a i _ h.answered n q l c words h.state w) y z

    pub host-refused : (n : ℕ) → n ≡ Machine.report_number (Machine.report_of a) → 30 ≤ n → Known after → Known ws
        → HostRuns t ws mem (runs k) (upper n + i) after ws
    host-refused n q l y z =
        let h = by-words in
        host-ran n ws (told t ws mem (runs k) ok a i _ h.answered n q) (kept t ws mem (runs k) ok a i _ h.answered n q l) y z
