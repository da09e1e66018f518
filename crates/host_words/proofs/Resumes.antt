-- What resume answers is what a host is told, and its words are those of the state that is left.
-- Assumes nothing.
use Prim.Native.Nat.{ℕ, ◌<◌, ◌≤◌}
use mathlib.Core.Path.{◌≡◌, sym}
use mathlib.Core.Bool.{true, false}
use mathlib.Core.List.{List, ◌++◌}
use lib.ListN.{drop}
use Rattle.rules.specs.Run.{resumes}
use Rattle.states.specs.declared.State.{State}
use Rattle.resuming.specs.Answers as Machine
use Rattle.resuming.specs.declared.answers.Answer as Ran
use Rattle.lent.specs.Lent.{code_from, lawful, words_from}
use Rattle.host_claims.specs.Running.{HostResumes, call_number, call_words, unread_number, words_left}
use Rattle.host_claims.proofs.Known.{Known, are_words}
use Rattle.host_claims.proofs.Machines.{left-machine, resumed-memory}
use Rattle.host_words.proofs.Told.{kept, put, told, words-unread}

module _ (t ws mem : List ℕ) (x : ℕ) where
  resumed : (n : ℕ) (words : List ℕ) → n ≡ call_number (call_words t ws mem (resumes x)) → words ≡ words_left (call_words t ws mem (resumes x)) ws
      → Known mem → Known words → HostResumes t ws mem (resumes x) n words
  resumed n words q w y z =
      record {
        number = q;
        state = w;
        machine = left-machine t ws mem (resumes x) mem words (resumed-memory t ws mem x) w;
        memory_words = are_words mem y;
        state_words = are_words words z;
      }

  -- words that are no state
  pub host-unresumed : lawful ws ≡ false → Known mem → Known ws → HostResumes t ws mem (resumes x) (unread_number t) ws
  host-unresumed a y z = let u = words-unread t ws mem (resumes x) a in resumed (unread_number t) ws u.0 (sym u.3) y z

  module _ (s : State) (a : Ran.Answer) (c : State) (ok : lawful ws ≡ true) (e : s ≡ code_from ws)
      (g : Machine.Resumes t s mem x (record { answer = a; state = c })) where
    by-words : Machine.Resumes t (code_from ws) mem x (record { answer = a; state = c })
    by-words = rw e at g

    -- an ending, with the state's words put in front; a refusal, with the words as they were
    pub host-went-on : (n : ℕ) (words : List ℕ) → n ≡ Machine.report_number (Machine.report_of a) → n < 30 → words ≡ words_from c ++ drop 270 ws → Known mem
        → Known words → HostResumes t ws mem (resumes x) n words
    host-went-on n words q l w y z =
        let h = by-words in
        resumed n words (told t ws mem (resumes x) ok a 0 _ h.answered n q) (put t ws mem (resumes x) ok a 0 _ h.answered n q l c words h.state w) y z

    pub host-declined : (n : ℕ) → n ≡ Machine.report_number (Machine.report_of a) → 30 ≤ n → Known mem → Known ws → HostResumes t ws mem (resumes x) n ws
    host-declined n q l y z =
        let h = by-words in
        resumed n ws (told t ws mem (resumes x) ok a 0 _ h.answered n q) (kept t ws mem (resumes x) ok a 0 _ h.answered n q l) y z
