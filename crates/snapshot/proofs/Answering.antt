-- The writer's answers: each refusal in its place, and the file that is written.
-- Assumes nothing.
use Prim.Native.Nat.{ℕ, ◌<◌, ◌≤◌}
use mathlib.Core.Path.{◌≡◌, refl, sym, ap, ◌∙◌}
use mathlib.Core.Bool.{true, false}
use mathlib.Core.List.{List, ◌++◌}
use borrow.Author.Tests.{le-ltb, lt-ltb}
use lib.Dec.{eqb}
use lib.ListN.{length, drop}
use Rattle.base.specs.Test.{if}
use Rattle.base.proofs.Bool.{if_no, if_yes, unless-no, unless-yes}
use Rattle.rules.specs.Number.{bad_state, bad_table, refusal_number, short_room}
use Rattle.rules.specs.Check.{table_ok}
use Rattle.rules.specs.State.{State, state_ok}
use Rattle.rules.specs.Table.{fresh_count}
use Rattle.rules.specs.Snapshot.{file_length, new_form, file_of, filled, unwritten, write_of}
use Rattle.rules.proofs.Files.{length-file_of}
use Rattle.rules.specs.Snapshot as Snapshot
use Rattle.snapshot.specs.Answers.{Writes, bytes_written, written_of}
use Rattle.snap_core.specs.Buffers.{put}
use Rattle.std.specs.Prelude.{Result, Ok, Err}
use Rattle.snapshot.specs.declared.writing.WriteError.{WriteError}
use Rattle.snapshot.specs.declared.writing.WriteError.TheVariants.{BadState, BadTable, ShortRoom}
use Rattle.snap_core.proofs.Freshening.{put_front}

-- the writer's answer is told by what the rules see of it
pub told : Snapshot.Written → ℕ → Result ℕ WriteError
told (filled after) n = Ok n
told (unwritten e) n = if (eqb (refusal_number e) 30) (Err BadTable) (if (eqb (refusal_number e) 31) (Err BadState) (Err ShortRoom))

pub told-answer : (r : Result ℕ WriteError) (after : List ℕ) → r ≡ told (written_of r after) (bytes_written r)
unfolding told if
told-answer (Ok n) after = refl
told-answer (Err BadTable) after = refl
told-answer (Err BadState) after = refl
told-answer (Err ShortRoom) after = refl

module _ (t : List ℕ) (s : State) (build : ℕ) (room : List ℕ) where
  -- 30
  pub unwritten-table : table_ok t ≡ false → Writes t s build room (Err BadTable) room
  unfolding write_of
  unwritten-table a =
      let u : write_of t s build room ≡ unwritten bad_table = unless-no _ _ _ a in
      record { answer = sym u; bytes = rw u; size = rw u }

  module _ (ok : table_ok t ≡ true) where
    -- 31
    pub unwritten-state : state_ok t s ≡ false → Writes t s build room (Err BadState) room
    unfolding write_of
    unwritten-state a =
        let u : write_of t s build room ≡ unwritten bad_state = unless-yes _ _ _ ok ∙ unless-no _ _ _ a in
        record { answer = sym u; bytes = rw u; size = rw u }

    module _ (passes : state_ok t s ≡ true) where
      -- 45
      pub unwritten-room : length room < file_length new_form (length s.core.mem) (length s.links) (fresh_count t) → Writes t s build room (Err ShortRoom) room
      unfolding write_of
      unwritten-room a =
          let u : write_of t s build room ≡ unwritten short_room = unless-yes _ _ _ ok ∙ unless-yes _ _ _ passes ∙ if_yes _ _ _ (lt-ltb _ _ a) in
          record { answer = sym u; bytes = rw u; size = rw u }

      -- the file at the front
      pub written-file : (n : ℕ) (after : List ℕ) → file_length new_form (length s.core.mem) (length s.links) (fresh_count t) ≤ length room
          → n ≡ file_length new_form (length s.core.mem) (length s.links) (fresh_count t) → after ≡ put room 0 (file_of t s build)
          → Writes t s build room (Ok n) after
      unfolding write_of
      written-file n after a e h =
          let whole : after ≡ file_of t s build ++ drop (file_length new_form (length s.core.mem) (length s.links) (fresh_count t)) room =
          h ∙ put_front room (file_of t s build) ∙ rw length-file_of in
          let u : write_of t s build room ≡ filled after =
          unless-yes _ _ _ ok ∙ unless-yes _ _ _ passes ∙ if_no _ _ _ (le-ltb _ _ a) ∙ ap filled (sym whole) in
          record { answer = sym u; bytes = rw u; size = rw u (e ∙ sym (length-file_of t s build)) }
