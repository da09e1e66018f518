-- Both starts over the functions that a host calls, by their contracts alone (Running): `torzimlak_start`, which clears what is behind the program,
-- and `torzimlak_warm_start`, which leaves it as lent [02 Wish 6].
-- Assumes nothing.
use Rattle.std.specs.Prelude.{ℕ, ◌+◌, ◌<◌, ◌≤◌, ◌≡◌, List, length}
use Rattle.base.specs.Lists.{◌at◌}
use Rattle.rules.specs.Start.{Mode, plain, warm}
use Rattle.rules.specs.Table.{constants, fresh_count, fresh_index, workings}
use Rattle.host_claims.specs.Answer.{state_number}
use Rattle.host_claims.specs.Running.{HostStarts}

-- a start that answers n: it keeps memory's length; refused, it changes no lent word; begun, its fresh words are the host's, and what it leaves
-- passes `torzimlak_check_state`
pub record StartClaim (t lent fs ws : List ℕ) (n : ℕ) (mem words : List ℕ) : Type 0 where
  pub memory_length : length mem ≡ length lent
  pub refused_keeps : (n ≡ 0 → ⊥) → (mem ≡ lent) × (words ≡ ws)
  pub fresh : n ≡ 0 → (i : ℕ) → i < fresh_count t → mem at fresh_index t i ≡ fs at i
  pub passes : n ≡ 0 → state_number t words mem ≡ 0

unfoldable pub HostStartClaims : Type 0
HostStartClaims =
    (k : Mode) (t lent fs : List ℕ) (x : ℕ) (ws : List ℕ) (n : ℕ) (mem words : List ℕ) → HostStarts k t lent fs x ws n mem words
    → StartClaim t lent fs ws n mem words

-- the plain start and the warm one of the same lent words: the same number, the same state, and the same memory below c + w; behind that the plain
-- one has left zeros, the warm one what was lent
pub record StartsAlike (t lent : List ℕ) (n n' : ℕ) (mem mem' words words' : List ℕ) : Type 0 where
  pub number : n ≡ n'
  pub state : words ≡ words'
  pub program : (i : ℕ) → i < constants t + workings t → mem at i ≡ mem' at i
  pub cleared : n ≡ 0 → (i : ℕ) → constants t + workings t ≤ i → mem at i ≡ 0
  pub kept : (i : ℕ) → constants t + workings t ≤ i → mem' at i ≡ lent at i

unfoldable pub HostStartsAlike : Type 0
HostStartsAlike =
    (t lent fs : List ℕ) (x : ℕ) (ws : List ℕ) (n n' : ℕ) (mem mem' words words' : List ℕ) → HostStarts plain t lent fs x ws n mem words
    → HostStarts warm t lent fs x ws n' mem' words' → StartsAlike t lent n n' mem mem' words words'

-- nothing of the lent memory but its length is in what a plain start answers and leaves: two tenants' memories of one length give one machine
unfoldable pub HostForgets : Type 0
HostForgets =
    (t lent lent' fs : List ℕ) (x : ℕ) (ws : List ℕ) (n n' : ℕ) (mem mem' words words' : List ℕ) → length lent ≡ length lent'
    → HostStarts plain t lent fs x ws n mem words → HostStarts plain t lent' fs x ws n' mem' words'
    → (n ≡ n') × (words ≡ words') × (n ≡ 0 → mem ≡ mem')
