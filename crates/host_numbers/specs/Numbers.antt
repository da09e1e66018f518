-- The number of each answer of the snapshot, as a host sees it: alone, or in the upper half of an answer with a value.
-- Wrong answers that the equations rule out: another refusal's number, a length in the upper half.
-- Assumes nothing.
use Rattle.std.specs.Prelude.{ℕ, Result, Ok, Err}
use Rattle.rules.specs.Number.{refusal_number, bad_table, bad_state, bad_trailer, other_program, bad_frozen, fresh_count_off, memory_length_off, short_room, upper}
use Rattle.snapshot.specs.declared.waking.RestoreError.{RestoreError}
use Rattle.snapshot.specs.declared.waking.RestoreError.TheVariants.{BadTable, BadTrailer, OtherProgram, BadFrozen, FreshCountOff, MemoryLengthOff}
use Rattle.snapshot.specs.declared.writing.WriteError.{WriteError}
use Rattle.snapshot.specs.declared.writing.WriteError.TheVariants as writes
use Rattle.snapshot.specs.declared.writing.WriteError.TheVariants.{BadState, ShortRoom}

-- the number of restore's answer as the code has it
abbrev pub number_restored : Result (Unit {0}) RestoreError → ℕ
number_restored (Ok u) = 0
number_restored (Err BadTable) = refusal_number bad_table
number_restored (Err BadTrailer) = refusal_number bad_trailer
number_restored (Err OtherProgram) = refusal_number other_program
number_restored (Err BadFrozen) = refusal_number bad_frozen
number_restored (Err FreshCountOff) = refusal_number fresh_count_off
number_restored (Err MemoryLengthOff) = refusal_number memory_length_off

-- the number and length of the writer's answer as the code has it
abbrev pub number_written : Result ℕ WriteError → ℕ
number_written (Ok n) = n
number_written (Err writes.BadTable) = upper (refusal_number bad_table)
number_written (Err BadState) = upper (refusal_number bad_state)
number_written (Err ShortRoom) = upper (refusal_number short_room)
