use native.Mathlib.Omega.{arith}
use Rattle.rules.specs.Exec.{chars_fit}
use Rattle.block_chars.proofs.chars_fit.Goals as goal

pub sum-requires : goal.sum-requires
sum-requires c = tt

pub overflow_mul-result : goal.overflow_mul-result
overflow_mul-result c = omega arith

pub returns : goal.returns
unfolding chars_fit
returns c = rw c.sum.ensures
