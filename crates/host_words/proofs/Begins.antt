-- What start answers is what a host is told, and its words are those of the state that is left.
-- Assumes nothing.
use Prim.Native.Nat.{ℕ, ◌<◌, ◌≤◌}
use mathlib.Core.Path.{◌≡◌, refl, sym, ap, ◌∙◌}
use mathlib.Core.Bool.{Bool, true, false}
use mathlib.Core.List.{List, ◌++◌}
use native.Mathlib.Omega.{arith}
use lib.ListN.{length, drop}
use borrow.Author.Tests.{lt-ltb, le-ltb}
use Rattle.base.specs.Test.{if}
use Rattle.base.proofs.Bool.{if_no, if_yes, unless-no, unless-yes}
use Rattle.rules.specs.Number.{refusal_number, bad_table, bad_state}
use Rattle.rules.specs.Check.{table_ok}
use Rattle.rules.specs.State as Rules
use Rattle.rules.specs.Start as Start
use Rattle.rules.specs.Start.{Mode, memory_begun, start_of, start_on, unbegun}
use Rattle.states.specs.declared.State.{State}
use Rattle.states.specs.Views.{state_of}
use Rattle.starting.specs.Answers as Starting
use Rattle.starting.specs.declared.StartError.{StartError}
use Rattle.std.specs.Prelude.{Ok, Err}
use Rattle.lent.specs.Lent.{words_from}
use Rattle.host_claims.specs.Running.{HostStarts, start_number, start_words, unread_number, words_begun}
use Rattle.host_claims.proofs.Known.{Known, are_words}
use Rattle.host_claims.proofs.Machines.{begun-machine}

start-table : (t m fs : List ℕ) (x : ℕ) → table_ok t ≡ false → start_on t m fs x ≡ unbegun bad_table
unfolding start_on if
start-table t m fs x e = rw e

module _ (k : Mode) (t lent fs : List ℕ) (x : ℕ) (ws : List ℕ) where
  -- too little room: 30, or 31
  told-start : (n : ℕ) (after words : List ℕ) → n ≡ start_number (start_words k t lent fs x ws) → after ≡ memory_begun (start_words k t lent fs x ws) lent
      → words ≡ words_begun (start_words k t lent fs x ws) ws → Known after → Known words → HostStarts k t lent fs x ws n after words
  told-start n after words q m w y z =
      record {
        number = q;
        memory = m;
        state = w;
        machine = begun-machine k t lent fs x ws after words m w;
        memory_words = are_words after y;
        state_words = are_words words z;
      }

  pub host-unstarted : length ws < 270 → Known lent → Known ws → HostStarts k t lent fs x ws (unread_number t) lent ws
  unfolding unread_number start_words
  host-unstarted a y z = by-table (table_ok t) refl
    where
      by-table : (b : Bool) → table_ok t ≡ b → HostStarts k t lent fs x ws (unread_number t) lent ws
      by-table true e =
          let u : start_words k t lent fs x ws ≡ unbegun bad_state = unless-yes _ _ _ e ∙ if_yes _ _ _ (lt-ltb _ _ a) in
          told-start (unread_number t) lent ws (if_yes _ _ _ e ∙ rw u) (rw u) (rw u) y z
      by-table false e =
          let u : start_words k t lent fs x ws ≡ unbegun bad_table = unless-no _ _ _ e in
          told-start (unread_number t) lent ws (if_no _ _ _ e ∙ rw u) (rw u) (rw u) y z

  -- room enough: what the rules start
  start-words : 270 ≤ length ws → start_words k t lent fs x ws ≡ start_of k t lent fs x
  unfolding start_words
  start-words a = by-table (table_ok t) refl
    where
      by-table : (b : Bool) → table_ok t ≡ b → start_words k t lent fs x ws ≡ start_of k t lent fs x
      by-table true e = unless-yes _ _ _ e ∙ if_no _ _ _ (le-ltb _ _ a)
      by-table false e = unless-no _ _ _ e ∙ sym (start-table t _ fs x e)

  module _ (after : List ℕ) (room : 270 ≤ length ws) where
    -- begun, with the state's words put in front
    pub host-begun : (c : State) → Starting.Starts k t lent fs x (Ok c) after → (words : List ℕ) → words ≡ words_from c ++ drop 270 ws → Known after → Known words
        → HostStarts k t lent fs x ws 0 after words
    host-begun c g words w y z =
        let u = start-words room in
        told-start 0 after words (ap start_number g.answer ∙ rw u) (g.memory ∙ rw u)
        (w ∙ ap (λ (v : State). words_from v ++ drop 270 ws) (g.state ∙ ap Starting.state_begun (sym g.answer))
        ∙ ap (λ (v : Start.Started). words_begun v ws) g.answer ∙ rw u) y z

    -- refused, with the words as they were
    pub host-unbegun : (e : StartError) → Starting.Starts k t lent fs x (Err e) after → (n : ℕ) → n ≡ refusal_number (Starting.refusal_of e) → Known after → Known ws
        → HostStarts k t lent fs x ws n after ws
    host-unbegun e g n q y z =
        let u = start-words room in
        told-start n after ws (q ∙ ap start_number g.answer ∙ rw u) (g.memory ∙ rw u) (ap (λ (v : Start.Started). words_begun v ws) g.answer ∙ rw u) y z
