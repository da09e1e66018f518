-- When a copy reads its characters before it changes them.
-- Assumes nothing.
use Rattle.std.specs.Prelude.{ℕ, ◌+◌, ◌≤◌, ◌<◌}
use Rattle.ops.specs.Machine.{cfp_b}

-- the address g is not 1, 2 or 3 above f: a word's characters are read before they change
abbrev pub Apart : ℕ → ℕ → Type 0
Apart f g = f < g → f + cfp_b ≤ g

-- none of n characters from f on is changed by the copy to g before it is read
abbrev pub Untouched : ℕ → ℕ → ℕ → Type 0
Untouched n f g = f < g → f + n ≤ g
