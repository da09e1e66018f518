-- What CHK requires of memory: a checked state on a checked table has it (proofs/Ready).
-- Assumes nothing.
use Rattle.std.specs.Prelude.{ℕ, ◌≤◌}
use Rattle.ops.specs.Machine.{max_memory}
use Rattle.rules.specs.Exec.{check_words}

-- memory of k words has the words that CHK keeps free
pub record Roomy (k : ℕ) : Type 0 where
  pub least : check_words ≤ k
  pub most : k ≤ max_memory
