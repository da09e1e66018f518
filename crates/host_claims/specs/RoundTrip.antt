-- The round trip over the functions that a host calls, for any machine that a host can have: started or restored, then any list of calls and
-- writes, then written and restored. It is the same machine, but for the fresh words, which are those that the host supplies; and machines
-- that differ only in fresh words are written alike.
-- Assumes nothing.
use Rattle.std.specs.Prelude.{ℕ, ◌^◌, ◌<◌, ◌≤◌, ◌≡◌, List, [], ◌∷◌, ◌++◌, length, take}
use Rattle.base.specs.Lists.{◌at◌}
use Rattle.rules.specs.Table.{fresh_count, fresh_index}
use Rattle.rules.specs.Snapshot.{file_length, new_form}
use Rattle.rules.specs.Alike.{SameButFresh}
use Rattle.rules.specs.Claim.{Write, to_ia, to_memory, to_register}
use Rattle.lent.specs.Lent.{state_from}
use Rattle.host_claims.specs.Answer.{state_number}
use Rattle.host_claims.specs.Freezing.{HostRestores, HostWrites}
use Rattle.host_claims.specs.Calls.{AllPromised, Begun, Made, memory_written, words_written}

-- what the host writes are words of 32 bits
abbrev pub WritesWords : List Write → Type 0
WritesWords [] = Unit {0}
WritesWords (to_memory i v ∷ us) = (v < 2 ^ 32) × WritesWords us
WritesWords (to_register r v ∷ us) = (v < 2 ^ 32) × WritesWords us
WritesWords (to_ia v ∷ us) = (v < 2 ^ 32) × WritesWords us

-- the words and the memory that a list of calls leaves
abbrev pub last_words : List ℕ → List Made → List ℕ
last_words ws [] = ws
last_words ws (m ∷ ms) = last_words m.words ms

abbrev pub last_memory : List ℕ → List Made → List ℕ
last_memory mem [] = mem
last_memory mem (m ∷ ms) = last_memory m.memory ms

-- a host has the machine of these words and this memory: a start or a restore left one, calls with writes between them followed, then writes
pub record Held (t ws mem : List ℕ) : Type 0 where
  pub begun_with : List ℕ
  pub first_memory : List ℕ
  pub begun : Begun t begun_with first_memory
  pub calls : List Made
  pub promised : AllPromised t begun_with first_memory calls
  pub last : List Write
  pub are_words : WritesWords last
  pub words_are : ws ≡ words_written (last_words begun_with calls) last
  pub memory_is : mem ≡ memory_written (last_memory first_memory calls) last

-- what a restore of the file gives: the answer 0, the same machine but for the fresh words, and in these the host's
pub record Woken (t ws mem fs : List ℕ) (n : ℕ) (mem' ws' : List ℕ) : Type 0 where
  pub number : n ≡ 0
  pub same : SameButFresh t (state_from ws' mem') (state_from ws mem)
  pub fresh : (i : ℕ) → i < fresh_count t → mem' at fresh_index t i ≡ fs at i
  pub passes : state_number t ws' mem' ≡ 0

-- room for the file is all that a write of a machine that a host has needs; r is then the file's length; and its last bytes, whatever
-- stands in front of them, restore to the machine, given as many fresh words and as long a memory
unfoldable pub HostRoundTrip : Type 0
HostRoundTrip =
    (t ws mem : List ℕ) → Held t ws mem → (build : ℕ) → build < 2 ^ 32 → (room : List ℕ) (r : ℕ) (after : List ℕ)
    → HostWrites t ws mem build room r after → file_length new_form (length mem) (ws at 10) (fresh_count t) ≤ length room
    → (r ≡ file_length new_form (length mem) (ws at 10) (fresh_count t))
    × ((front fs lent room' : List ℕ) (n : ℕ) (mem' ws' : List ℕ) → length fs ≡ fresh_count t → length lent ≡ length mem → 270 ≤ length room'
    → HostRestores t (front ++ take r after) build fs lent room' n mem' ws' → Woken t ws mem fs n mem' ws')

-- machines that pass and differ only in fresh words: the writer's answers are equal, and so are the bytes
unfoldable pub HostSecret : Type 0
HostSecret =
    (t ws ws' mem mem' : List ℕ) → state_number t ws mem ≡ 0 → state_number t ws' mem' ≡ 0 → SameButFresh t (state_from ws mem) (state_from ws' mem')
    → (build : ℕ) (room : List ℕ) (r r' : ℕ) (after after' : List ℕ)
    → HostWrites t ws mem build room r after → HostWrites t ws' mem' build room r' after' → (r ≡ r') × (after ≡ after')
