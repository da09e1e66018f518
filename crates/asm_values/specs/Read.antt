-- A format read back from its word: bit k for each kind k, the tag above the lowest 24 bits [M section 7].
-- proofs/Formats shows that every format of an operand is what its word is read as.
-- Assumes nothing.
use Rattle.std.specs.Prelude.{ℕ, zero, suc, ◌/◌, ◌%◌, ◌^◌, Bool, List, [], ◌∷◌, eqb, leb}
use Rattle.base.specs.Test.{if}
use Rattle.ops.specs.Machine.{cfp_m, cfp_n, XR, XS}
use Rattle.ops.specs.Format.{Format}

-- the word's bit of a kind is set
unfoldable pub has_bit : ℕ → ℕ → Bool
has_bit w k = eqb (w / 2 ^ k % 2) 1

-- the kinds of the m bits from bit k on
unfoldable pub kinds_from : ℕ → ℕ → ℕ → List ℕ
kinds_from w zero k = []
kinds_from w (suc m) k = if (has_bit w k) (k ∷ kinds_from w m (suc k)) (kinds_from w m (suc k))

-- the last index register and the largest value of a format by its tag: OPC has 5, SHIFT 11; those of cards alone, from 15 on, take none
unfoldable pub last_of : ℕ → ℕ
last_of g = if (eqb g 5) XR (if (leb 15 g) 0 XS)

unfoldable pub largest_of : ℕ → ℕ
largest_of g = if (eqb g 11) cfp_n cfp_m

abbrev pub format_of : ℕ → Format
format_of w =
    record { tag = w / 2 ^ 24; kinds = kinds_from w 24 0; last_x = last_of (w / 2 ^ 24); largest = largest_of (w / 2 ^ 24) }
