-- What the writer and restore answer a host, and each word and byte that is lent to them, in terms of the rules' snapshot.
-- Taken where 01 is open: words that are no state are 31 to the writer; room of fewer words than a state has is 31 to restore, judged after 30.
-- Wrong answers that the equations rule out: a length in the upper half, another refusal's number, the state's words left as they were.
-- Assumes nothing.
use Rattle.std.specs.Prelude.{ℕ, ◌≡◌, not, List, ◌++◌, ltb, length, drop}
use Rattle.base.specs.Test.{if}
use Rattle.rules.specs.Number.{refusal_number, bad_table, bad_state, upper}
use Rattle.rules.specs.Check.{table_ok}
use Rattle.rules.specs.Snapshot as Snapshot
use Rattle.rules.specs.State as Rules
use Rattle.rules.specs.Snapshot.{file_of, filled, memory_woken, restore_of, room_after, unwoken, unwritten, woken, write_of}
use Rattle.rules.specs.Alike.{AreWords}
use Rattle.states.specs.Views.{code_of}
use Rattle.lent.specs.Lent.{lawful, state_from, words_from}

-- 30, then 31 for words that are no state, then what the rules write of the state that the words are
unfoldable pub write_words : List ℕ → List ℕ → List ℕ → ℕ → List ℕ → Snapshot.Written
write_words t ws mem build room =
    if (not (table_ok t)) (unwritten bad_table)
    (if (not (lawful ws)) (unwritten bad_state) (write_of t (state_from ws mem) build room))

-- the number of an answer, and the n bytes of the file if it is written
abbrev pub file_number : Snapshot.Written → ℕ → ℕ
file_number (filled after) n = n
file_number (unwritten e) n = upper (refusal_number e)

-- the writer's promise to a host
pub record HostWrites (t ws mem : List ℕ) (build : ℕ) (room : List ℕ) (r : ℕ) (after : List ℕ) : Type 0 where
  pub number : r ≡ file_number (write_words t ws mem build room) (length (file_of t (state_from ws mem) build))
  pub bytes : after ≡ room_after (write_words t ws mem build room) room

-- 30, then 31 for too little room for a state, then what the rules restore; of the lent state only its length counts
unfoldable pub restore_words : List ℕ → List ℕ → ℕ → List ℕ → List ℕ → List ℕ → Snapshot.Restored
restore_words t file build fs lent ws =
    if (not (table_ok t)) (unwoken bad_table) (if (ltb (length ws) 270) (unwoken bad_state) (restore_of t file build fs lent))

abbrev pub woken_number : Snapshot.Restored → ℕ
woken_number (woken s) = 0
woken_number (unwoken e) = refusal_number e

-- the lent state afterwards: the woken machine's words in front, or as it was
abbrev pub words_after : Snapshot.Restored → List ℕ → List ℕ
words_after (woken s) ws = words_from (code_of s) ++ drop 270 ws
words_after (unwoken e) ws = ws

-- restore's promise to a host: the number, the lent memory, the lent state's words, that these are the woken machine, and that all are words
pub record HostRestores (t file : List ℕ) (build : ℕ) (fs lent ws : List ℕ) (r : ℕ) (after words : List ℕ) : Type 0 where
  pub number : r ≡ woken_number (restore_words t file build fs lent ws)
  pub memory : after ≡ memory_woken (restore_words t file build fs lent ws) lent
  pub state : words ≡ words_after (restore_words t file build fs lent ws) ws
  pub machine : (s : Rules.State) → restore_words t file build fs lent ws ≡ woken s → state_from words after ≡ s
  pub memory_words : AreWords after
  pub state_words : AreWords words
