-- What a host may rely on, in terms of the two public functions: `Restores` and `Writes` are what restore and the writer ensure.
-- The theorems are those of rules (Snapshots.antt), restated over these promises.
-- Assumes nothing.
use Prim.Native.Nat.{ℕ, ◌<◌}
use mathlib.Core.Path.{◌≡◌, sym, ◌∙◌}
use mathlib.Core.List.{List, ◌++◌}
use lib.ListN.{length, take}
use Rattle.base.specs.Test.{Ok}
use Rattle.base.specs.Lists.{◌at◌}
use Rattle.rules.specs.State as Rules
use Rattle.rules.specs.State.{state_ok}
use Rattle.rules.specs.Table.{fresh_count, fresh_index}
use Rattle.rules.specs.Snapshot.{awakened, file_of, woken, write_of}
use Rattle.rules.specs.Alike.{Plain, SameButFresh}
use Rattle.rules.proofs.Snapshots.{restore-written, restored-fresh, restored-passes, restored-twice, same-file, same-written}
use Rattle.states.specs.declared.State.{State}
use Rattle.states.specs.Views.{state_of}
use Rattle.snapshot.specs.Answers.{Restores, Writes, bytes_after, restored_of, waking, writing}
use Rattle.std.specs.Prelude.{Result}
use Rattle.snapshot.specs.declared.waking.RestoreError.{RestoreError}
use Rattle.snapshot.specs.declared.writing.WriteError.{WriteError}
use Rattle.snapshot.proofs.Answering.{told, told-answer}

module _ (t file : List ℕ) (build : ℕ) (fs lent : List ℕ) (s : State) (mem : List ℕ)
    (done : Restores t file build fs lent (waking s) mem) where
  -- a woken machine passes the state check, whatever the file was
  pub woken-passes : Ok (state_ok t (state_of s mem))
  woken-passes = restored-passes t file build fs lent (state_of s mem) (sym done.answer)

  -- its fresh words are the host's
  pub woken-fresh : (i : ℕ) → i < fresh_count t → mem at fresh_index t i ≡ fs at i
  woken-fresh i l = restored-fresh t file build fs lent (state_of s mem) (sym done.answer) i l

  -- woken a second time, it differs in fresh words at most
  pub woken-twice : (build' : ℕ) (fs' lent' : List ℕ) (s' : State) (mem' : List ℕ)
      → Restores t file build' fs' lent' (waking s') mem' → SameButFresh t (state_of s mem) (state_of s' mem')
  woken-twice build' fs' lent' s' mem' again =
      restored-twice t file build build' fs fs' lent lent' (state_of s mem) (state_of s' mem') (sym done.answer) (sym again.answer)

-- the writer's answer and room tell nothing of fresh words: machines that differ in these alone get the same answer and leave the same
pub written-alike : (t : List ℕ) (s s' : Rules.State) (build : ℕ) (room after after' : List ℕ) (r r' : Result ℕ WriteError) → SameButFresh t s s'
    → Writes t s build room r after → Writes t s' build room r' after' → (r ≡ r') × (after ≡ after')
written-alike t s s' build room after after' r r' h a b =
    let e = same-written t s s' build room h in
    let f = same-file t s s' build h in
    let x : r ≡ told (write_of t s build room) (bytes_after (write_of t s build room) (length (file_of t s build))) =
    told-answer r after ∙ rw (a.answer, a.size) in
    let y : r' ≡ told (write_of t s' build room) (bytes_after (write_of t s' build room) (length (file_of t s' build))) =
    told-answer r' after' ∙ rw (b.answer, b.size) in
    (x ∙ rw (e, f) (sym y), a.bytes ∙ rw e (sym b.bytes))

-- a machine that is written and woken is the machine that was written, with the fresh words that the host supplies now
pub round_trip : (t : List ℕ) (s : Rules.State) (build n : ℕ) (room after front fs lent mem : List ℕ) (r : Result State RestoreError) → Plain s build
    → Writes t s build room (writing n) after → length fs ≡ fresh_count t → length lent ≡ length s.core.mem
    → Restores t (front ++ take (length (file_of t s build)) after) build fs lent r mem
    → restored_of r mem ≡ woken (awakened t fs s)
round_trip t s build n room after front fs lent mem r plain wrote supply lending done =
    let e = restore-written t s build room after (sym wrote.answer) front fs lent plain supply lending in
    done.answer ∙ e
