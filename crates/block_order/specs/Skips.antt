-- What a comparison may leave out.
-- Assumes nothing.
use Rattle.std.specs.Prelude.{ℕ, ◌+◌, ◌*◌, ◌≡◌, List}
use Rattle.ops.specs.Machine.{cfp_b}
use Rattle.rules.specs.Exec.{compared}

-- a comparison from the addresses a and e on may leave out the first r words
abbrev pub Skips : ℕ → ℕ → ℕ → List ℕ → Type 0
Skips r a e m = (j : ℕ) → compared (cfp_b * r + j) a e m ≡ compared j (a + cfp_b * r) (e + cfp_b * r) m
