-- `integers::signed` meets its contract: the wrapped sum of a word with 2^31, less 2^31, is its signed value.
use native.Mathlib.Omega.{arith}
use Rattle.integers.proofs.Wide.{moved-fits, moved_value}
use Rattle.integers.proofs.signed.Goals as goal

pub overflow_sub-result : goal.overflow_sub-result
overflow_sub-result c = moved-fits c.args.w {r = c.add.result} c.ranges.w.fits (omega (arith, c.add.ensures))

pub returns : goal.returns
returns c = moved_value c.args.w {r = c.add.result} c.ranges.w.fits (omega (arith, c.add.ensures))
