-- What restore and the writer promise: their answers, and each word and byte that is lent to them [S The snapshot].
-- Assumes nothing.
use Rattle.std.specs.Prelude.{ℕ, ◌≡◌, List, length, Result, Ok, Err}
use Rattle.rules.specs.Number.{Refusal, bad_table, bad_state, short_room, bad_trailer, other_program, bad_frozen, fresh_count_off, memory_length_off}
use Rattle.rules.specs.State as Rules
use Rattle.rules.specs.Snapshot as Snapshot
use Rattle.rules.specs.Snapshot.{file_of, filled, memory_woken, restore_of, room_after, unwoken, unwritten, woken, write_of}
use Rattle.states.specs.declared.State.{State}
use Rattle.states.specs.Views.{blank, code_of, state_of}
use Rattle.snapshot.specs.declared.waking.RestoreError.{RestoreError}
use Rattle.snapshot.specs.declared.waking.RestoreError.TheVariants.{BadTable, BadTrailer, OtherProgram, BadFrozen, FreshCountOff, MemoryLengthOff}
use Rattle.snapshot.specs.declared.writing.WriteError.{WriteError}
use Rattle.snapshot.specs.declared.writing.WriteError.TheVariants as writes
use Rattle.snapshot.specs.declared.writing.WriteError.TheVariants.{BadState, ShortRoom}

-- a woken state as an answer of restore, and a refusal
abbrev pub waking : State → Result State RestoreError
waking s = Ok s

abbrev pub refusing : RestoreError → Result State RestoreError
refusing e = Err e

-- each refusal's case of the rules
abbrev pub refusal_of : RestoreError → Refusal
refusal_of BadTable = bad_table
refusal_of BadTrailer = bad_trailer
refusal_of OtherProgram = other_program
refusal_of BadFrozen = bad_frozen
refusal_of FreshCountOff = fresh_count_off
refusal_of MemoryLengthOff = memory_length_off

-- the rules' view of an answer, with the machine that it has if it is woken
abbrev pub restored_of : Result State RestoreError → List ℕ → Snapshot.Restored
restored_of (Ok s) mem = woken (state_of s mem)
restored_of (Err e) mem = unwoken (refusal_of e)

-- the state of an answer; a refusal has none, and blank stands for it
abbrev pub state_in : Result State RestoreError → State
state_in (Ok s) = s
state_in (Err e) = blank

-- the code's state afterwards: the woken machine's, or blank
abbrev pub state_woken : Snapshot.Restored → State
state_woken (woken s) = code_of s
state_woken (unwoken e) = blank

-- restore's promise: its answer and machine, the lent memory and the state are those of the definition, refusals included
pub record Restores (t file : List ℕ) (build : ℕ) (fs lent : List ℕ) (r : Result State RestoreError) (after : List ℕ) : Type 0 where
  pub answer : restored_of r after ≡ restore_of t file build fs lent
  pub memory : after ≡ memory_woken (restore_of t file build fs lent) lent
  pub state : state_in r ≡ state_woken (restore_of t file build fs lent)

-- the rules' view of the writer's answer, with the room afterwards
abbrev pub written_of : Result ℕ WriteError → List ℕ → Snapshot.Written
written_of (Ok n) after = filled after
written_of (Err writes.BadTable) after = unwritten bad_table
written_of (Err BadState) after = unwritten bad_state
written_of (Err ShortRoom) after = unwritten short_room

-- how many bytes an answer says are written
abbrev pub bytes_written : Result ℕ WriteError → ℕ
bytes_written (Ok n) = n
bytes_written (Err e) = 0

-- a written file's n bytes as an answer of the writer
abbrev pub writing : ℕ → Result ℕ WriteError
writing n = Ok n

-- the bytes written of a file of n
abbrev pub bytes_after : Snapshot.Written → ℕ → ℕ
bytes_after (filled after) n = n
bytes_after (unwritten e) n = 0

-- the writer's promise: its answer, the room and the bytes written are those of the definition, refusals included
pub record Writes (t : List ℕ) (s : Rules.State) (build : ℕ) (room : List ℕ) (r : Result ℕ WriteError) (after : List ℕ) : Type 0 where
  pub answer : written_of r after ≡ write_of t s build room
  pub bytes : after ≡ room_after (write_of t s build room) room
  pub size : bytes_written r ≡ bytes_after (write_of t s build room) (length (file_of t s build))
