-- The two words that the code loads, or none, its operations and comparisons as the rules'.
-- Assumes nothing.
use Rattle.std.specs.Prelude.{ℕ, Option, Some, None}
use Rattle.ops.specs.Ops.{Op, ADR, SBR, MLR, DVR, REQ, RGE, RGT, RLE, RLT, RNE}
use Rattle.rules.specs.Pair as Rules
use Rattle.reals.specs.declared.Arithmetic.{Arithmetic}
use Rattle.reals.specs.declared.Arithmetic.TheVariants.{Sum, Difference, Product, Quotient}
use Rattle.reals.specs.declared.Comparison.{Comparison}
use Rattle.reals.specs.declared.Comparison.TheVariants.{Equal, NotLess, Greater, NotGreater, Less, NotEqual}

abbrev pub pair_view : Option (ℕ × ℕ) → Rules.Pair
pair_view (Some (v, w)) = Rules.words v w
pair_view None = Rules.missing

-- the operation that computes so, and the one that compares so
abbrev pub computing : Arithmetic → Op
computing Sum = ADR
computing Difference = SBR
computing Product = MLR
computing Quotient = DVR

abbrev pub comparing : Comparison → Op
comparing Equal = REQ
comparing NotLess = RGE
comparing Greater = RGT
comparing NotGreater = RLE
comparing Less = RLT
comparing NotEqual = RNE
