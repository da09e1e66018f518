-- A wrapped sum added to a word.
-- Assumes nothing.
use Prim.Native.Nat.{ℕ, ◌+◌}
use mathlib.Core.Path.{◌≡◌}
use native.Mathlib.Omega.{arith}
use Rattle.words.specs.Words.{plus}

pub plus-plus : (w a b : ℕ) → plus w (plus a b) ≡ plus w (a + b)
plus-plus w a b = omega arith
