-- What a division leaves in the accumulator and the flag, whichever result of it is kept.
-- Assumes nothing.
use Rattle.std.specs.Prelude.{ℕ, ◌≡◌, List, ℤ}
use Rattle.base.specs.Lists.{◌at◌}
use Rattle.ops.specs.Machine.{IA}
use Rattle.words.specs.Words.{signed}
use Rattle.rules.specs.Exec.{divided}

-- the words y are those of z once IA is divided by v, where n is the quotient or the remainder f
abbrev pub Divides : ℤ → List ℕ → ℕ → List ℕ → Type 0
Divides n z v y = (f : ℤ → ℤ → ℤ) → n ≡ f (signed (z at IA)) (signed v) → y ≡ divided f z v
