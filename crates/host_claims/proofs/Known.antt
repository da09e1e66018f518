-- Words of 32 bits, as the elements of a lent slice are known to be.
-- Assumes nothing.
use Prim.Native.Nat.{ℕ}
use mathlib.Core.List.{List}
use native.Mathlib.Omega.{arith}
use mir.Syntax.{w32}
use mir.Val.{Fits}
use Rattle.base.specs.Lists.{◌at◌}
use Rattle.rules.specs.Alike.{AreWords}

abbrev pub Known : List ℕ → Type 0
Known l = (i : ℕ) → Fits w32 (l at i)

pub are_words : (l : List ℕ) → Known l → AreWords l
are_words l h = record { below = λ i. omega (arith, h i) }
