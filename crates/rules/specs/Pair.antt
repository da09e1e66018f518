-- Two words of memory as the operand of a real operation [02 Wish 5].
-- Taken where the papers are open: both words of a pair lie in memory, else 22, before 23; the first word is aligned to 4; a pair is
-- written where its first word is no constant.
-- Assumes nothing.
use Rattle.std.specs.Prelude.{ℕ, ◌+◌, List, ltb, length, set}
use Rattle.base.specs.Test.{if}
use Rattle.base.specs.Lists.{◌at◌}
use Rattle.ops.specs.Machine.{cfp_b, IA}
use Rattle.rules.specs.Number.{bad_address, constant_write}
use Rattle.rules.specs.Effect.{Effect, done, trap}
use Rattle.rules.specs.Operand.{Operand, Cell, cell, nothing, Spot, literal, inside, address, spot_of, word_at}
use Rattle.real_rules.specs.Real.{Real, real_of, Whole, within, beyond, whole_of, ra_of, settled}

-- two words of memory, the low one first
pub data Pair : Type 0 where
  words : ℕ → ℕ → Pair
  missing : Pair

abbrev pub pair_at : List ℕ → Cell → Pair
pair_at m (cell i) = if (ltb (i + 1) (length m)) (words (m at i) (m at (i + 1))) missing
pair_at m nothing = missing

abbrev pub pair_from : Spot → List ℕ → Pair
pair_from (literal v) m = missing
pair_from (inside r) m = missing
pair_from (address a) m = pair_at m (word_at (length m) a)

-- the pair that an operand names
unfoldable pub pair_of : List ℕ → List ℕ → Operand → Pair
pair_of z m o = pair_from (spot_of cfp_b z o) m

-- the words become f of them and of the real that a pair holds, or the run ends by 22
abbrev pub takes : List ℕ → List ℕ → Pair → (Real → Real) → Effect
takes z m (words v w) f = done (settled (f (real_of v w)) z) m 0
takes z m missing f = trap bad_address

unfoldable pub loads_real : List ℕ → List ℕ → Operand → (Real → Real) → Effect
loads_real z m o f = takes z m (pair_of z m o) f

abbrev pub put_pair_at : ℕ → List ℕ → List ℕ → ℕ → ℕ → Cell → Effect
put_pair_at c z m v w (cell i) =
    if (ltb (i + 1) (length m)) (if (ltb i c) (trap constant_write) (done z (set (set m i v) (i + 1) w) 0)) (trap bad_address)
put_pair_at c z m v w nothing = trap bad_address

abbrev pub put_pair_to : Spot → ℕ → List ℕ → List ℕ → ℕ → ℕ → Effect
put_pair_to (literal x) c z m v w = trap bad_address
put_pair_to (inside r) c z m v w = trap bad_address
put_pair_to (address a) c z m v w = put_pair_at c z m v w (word_at (length m) a)

-- v and w stored where the operand stands
unfoldable pub stores_pair : ℕ → List ℕ → List ℕ → Operand → ℕ → ℕ → Effect
stores_pair c z m o v w = put_pair_to (spot_of cfp_b z o) c z m v w

-- RTI: IA takes the whole part, or slot 1 is taken and IA stays [M 8.6]
abbrev pub rti_by : List ℕ → List ℕ → Whole → Effect
rti_by z m (within w) = done (set z IA w) m 0
rti_by z m beyond = done z m 1

unfoldable pub rti_of : List ℕ → List ℕ → Effect
rti_of z m = rti_by z m (whole_of (ra_of z))
