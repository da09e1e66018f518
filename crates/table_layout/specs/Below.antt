-- A test at each of the first numbers, which one loop decides.
-- Assumes nothing.
use Rattle.std.specs.Prelude.{ℕ, zero, suc, Bool, true}
use Rattle.base.specs.Test.{◌and◌}

-- the test passes at each number below k
unfoldable pub below : (ℕ → Bool) → ℕ → Bool
below f zero = true
below f (suc k) = below f k and f k
