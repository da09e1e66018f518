-- Characters that lie in memory, and a word of characters that lie in two.
-- Assumes nothing.
use Rattle.std.specs.Prelude.{ℕ, ◌+◌, ◌*◌, ◌-◌, ◌/◌, ◌%◌, ◌^◌, ◌≤◌, List, length}
use Rattle.ops.specs.Machine.{cfp_a, cfp_b, cfp_c}

-- n characters from the address a on lie in memory
abbrev pub Within : List ℕ → ℕ → ℕ → Type 0
Within m a n = a + n ≤ cfp_b * length m

-- the word of the four characters from character r of u on; those after u are v's
abbrev pub merged_word : ℕ → ℕ → ℕ → ℕ
merged_word u v r = u / cfp_a ^ r + v % cfp_a ^ r * cfp_a ^ (cfp_c - r)
