-- The entry that a label names, as the code finds it and as the rules number it.
-- Assumes nothing.
use Rattle.std.specs.Prelude.{ℕ, suc, Option, Some, None}

-- 1 + the place, or 0 where there is none
abbrev pub found_of : Option ℕ → ℕ
found_of (Some q) = suc q
found_of None = 0
