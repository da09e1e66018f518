-- What the writer and restore answer, as the number that the host sees, with what is lent.
-- Assumes nothing.
use Prim.Native.Nat.{ℕ, ◌<◌, ◌≤◌}
use mathlib.Core.Path.{◌≡◌, refl, sym, ap, ◌∙◌}
use mathlib.Core.Bool.{true, false}
use mathlib.Core.List.{List, ◌++◌}
use borrow.Author.Tests.{le-ltb, lt-ltb}
use lib.ListN.{length, drop}
use Rattle.base.proofs.Bool.{if_no, if_yes, unless-no, unless-yes}
use Rattle.rules.specs.Number.{bad_table, bad_state, refusal_number, upper}
use Rattle.rules.specs.Check.{table_ok}
use Rattle.rules.specs.Snapshot as Snapshot
use Rattle.rules.specs.Snapshot.{memory_woken, restore_of, unwoken, unwritten, woken, write_of}
use Rattle.states.specs.declared.State.{State}
use Rattle.states.specs.Views.{state_of}
use Rattle.snapshot.specs.Answers.{Restores, Writes, bytes_after, bytes_written, refusal_of, state_woken, written_of}
use Rattle.std.specs.Prelude.{Result, Ok, Err}
use Rattle.snapshot.specs.declared.waking.RestoreError.{RestoreError}
use Rattle.snapshot.specs.declared.waking.RestoreError.TheVariants.{BadTable, BadTrailer, OtherProgram, BadFrozen, FreshCountOff, MemoryLengthOff}
use Rattle.snapshot.specs.declared.writing.WriteError.{WriteError}
use Rattle.snapshot.specs.declared.writing.WriteError.TheVariants as writes
use Rattle.snapshot.specs.declared.writing.WriteError.TheVariants.{BadState, ShortRoom}
use Rattle.host_claims.proofs.Known.{Known, are_words}
use Rattle.lent.specs.Lent.{lawful, code_from, state_from, words_from}
use Rattle.host_claims.proofs.Machines.{woken-machine}
use Rattle.host_claims.specs.Freezing.{HostRestores, HostWrites, file_number, restore_words, woken_number, words_after, write_words}
use Rattle.host_numbers.specs.Numbers.{number_restored, number_written}

-- the number of the code's answer is that of the rules' answer
written-number : (w : Result ℕ WriteError) (x : Snapshot.Written) (after : List ℕ) (n : ℕ) → written_of w after ≡ x → bytes_written w ≡ bytes_after x n
    → number_written w ≡ file_number x n
written-number (Ok k) x after n e h =
    h ∙ ap (λ (y : Snapshot.Written). bytes_after y n) (sym e) ∙ ap (λ (y : Snapshot.Written). file_number y n) e
written-number (Err writes.BadTable) x after n e h = ap (λ (y : Snapshot.Written). file_number y n) e
written-number (Err BadState) x after n e h = ap (λ (y : Snapshot.Written). file_number y n) e
written-number (Err ShortRoom) x after n e h = ap (λ (y : Snapshot.Written). file_number y n) e

restored-number : (a : RestoreError) → number_restored (Err a) ≡ refusal_number (refusal_of a)
restored-number BadTable = refl
restored-number BadTrailer = refl
restored-number OtherProgram = refl
restored-number BadFrozen = refl
restored-number FreshCountOff = refl
restored-number MemoryLengthOff = refl

module _ (t ws mem : List ℕ) (build : ℕ) (room : List ℕ) where
  -- 30
  pub host-unwritten-table : table_ok t ≡ false → HostWrites t ws mem build room (upper 30) room
  unfolding write_words
  host-unwritten-table a =
      let u : write_words t ws mem build room ≡ unwritten bad_table = unless-no _ _ _ a in
      record { number = rw u; bytes = rw u }

  module _ (ok : table_ok t ≡ true) where
    -- 31 for words that are no state
    pub host-unwritten-words : lawful ws ≡ false → HostWrites t ws mem build room (upper 31) room
    unfolding write_words
    host-unwritten-words a =
        let u : write_words t ws mem build room ≡ unwritten bad_state = unless-yes _ _ _ ok ∙ unless-no _ _ _ a in
        record { number = rw u; bytes = rw u }

    -- what the writer answers of a state
    pub host-written : (s : State) (w : Result ℕ WriteError) (r : ℕ) (after : List ℕ) → lawful ws ≡ true → s ≡ code_from ws
        → Writes t (state_of s mem) build room w after → r ≡ number_written w → HostWrites t ws mem build room r after
    unfolding write_words
    host-written s w r after a e h n =
        let u : write_words t ws mem build room ≡ write_of t (state_from ws mem) build room = unless-yes _ _ _ ok ∙ unless-yes _ _ _ a in
        let g : Writes t (state_from ws mem) build room w after = rw e at h in
        record { number = n ∙ rw u (written-number w _ after _ g.answer g.size); bytes = rw u g.bytes }

module _ (t file : List ℕ) (build : ℕ) (fs lent ws : List ℕ) where
  told-so : (n : ℕ) (after words : List ℕ) → n ≡ woken_number (restore_words t file build fs lent ws) → after ≡ memory_woken (restore_words t file build fs lent ws) lent
      → words ≡ words_after (restore_words t file build fs lent ws) ws → Known after → Known words → HostRestores t file build fs lent ws n after words
  told-so n after words q m w y z =
      record {
        number = q;
        memory = m;
        state = w;
        machine = woken-machine t file build fs lent ws after words m w;
        memory_words = are_words after y;
        state_words = are_words words z;
      }

  -- 30
  pub host-unwoken-table : table_ok t ≡ false → Known lent → Known ws → HostRestores t file build fs lent ws 30 lent ws
  unfolding restore_words
  host-unwoken-table a y z =
      let u : restore_words t file build fs lent ws ≡ unwoken bad_table = unless-no _ _ _ a in
      told-so 30 lent ws (rw u) (rw u) (rw u) y z

  module _ (ok : table_ok t ≡ true) where
    -- 31
    pub host-unwoken-words : length ws < 270 → Known lent → Known ws → HostRestores t file build fs lent ws 31 lent ws
    unfolding restore_words
    host-unwoken-words a y z =
        let u : restore_words t file build fs lent ws ≡ unwoken bad_state = unless-yes _ _ _ ok ∙ if_yes _ _ _ (lt-ltb _ _ a) in
        told-so 31 lent ws (rw u) (rw u) (rw u) y z

    module _ (after : List ℕ) (room : 270 ≤ length ws) where
      rules-restore : restore_words t file build fs lent ws ≡ restore_of t file build fs lent
      unfolding restore_words
      rules-restore = unless-yes _ _ _ ok ∙ if_no _ _ _ (le-ltb _ _ room)

      -- woken, and the state's words put in front
      pub host-woken : (s : State) → Restores t file build fs lent (Ok s) after → (words : List ℕ) → words ≡ words_from s ++ drop 270 ws → Known after → Known words
          → HostRestores t file build fs lent ws 0 after words
      host-woken s done words w y z =
          told-so 0 after words (rw rules-restore (ap woken_number done.answer)) (rw rules-restore done.memory)
          (rw rules-restore
          (w ∙ ap (λ (v : State). words_from v ++ drop 270 ws) (done.state ∙ ap state_woken (sym done.answer))
          ∙ ap (λ (v : Snapshot.Restored). words_after v ws) done.answer)) y z

      -- refused by the snapshot
      pub host-unwoken : (e : RestoreError) → Restores t file build fs lent (Err e) after → (n : ℕ) → n ≡ number_restored (Err e) → Known after → Known ws
          → HostRestores t file build fs lent ws n after ws
      host-unwoken e done n q y z =
          told-so n after ws (rw rules-restore (q ∙ restored-number e ∙ ap woken_number done.answer)) (rw rules-restore done.memory)
          (rw rules-restore (ap (λ (v : Snapshot.Restored). words_after v ws) done.answer)) y z
