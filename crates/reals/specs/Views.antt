-- The code's answers, operations and comparisons as the rules'; of RTI's answer, the word that IA takes or none.
-- Assumes nothing.
use Rattle.std.specs.Prelude.{ℕ, Bool, Float, Option, Some, None}
use Rattle.std.specs.Float.{binary64}
use Rattle.std.specs.Float.Ieee.{add, sub, mul, div, eq, ne, lt, le}
use Rattle.real_rules.specs.Real as R
use Rattle.real_rules.specs.Real.{zero_real}
use Rattle.reals.specs.declared.Real.{Real}
use Rattle.reals.specs.declared.Real.TheVariants.{Finite, Overflow}
use Rattle.reals.specs.declared.Arithmetic.{Arithmetic}
use Rattle.reals.specs.declared.Arithmetic.TheVariants.{Sum, Difference, Product, Quotient}
use Rattle.reals.specs.declared.Comparison.{Comparison}
use Rattle.reals.specs.declared.Comparison.TheVariants.{Equal, NotLess, Greater, NotGreater, Less, NotEqual}

abbrev pub real_view : Real → R.Real
real_view (Finite x) = R.value x
real_view Overflow = R.overflow

abbrev pub whole_view : Option ℕ → R.Whole
whole_view (Some w) = R.within w
whole_view None = R.beyond

-- an operation on two floats, rounded once, and a test of one
abbrev pub on_values : Arithmetic → Float → Float → Float
on_values Sum = add binary64
on_values Difference = sub binary64
on_values Product = mul binary64
on_values Quotient = div binary64

abbrev pub with_zero : Comparison → Float → Bool
with_zero Equal = λ x. eq x zero_real
with_zero NotLess = λ x. le zero_real x
with_zero Greater = λ x. lt zero_real x
with_zero NotGreater = λ x. le x zero_real
with_zero Less = λ x. lt x zero_real
with_zero NotEqual = λ x. ne x zero_real
