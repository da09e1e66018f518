-- `integers::low` meets its contract: the mask keeps the remainder by 2^32 of the 64 bits.
use mir.Syntax.{w64}
use mir.Val.{of_z}
use lib.IntN.{nat_abs}
use native.Mathlib.Omega.{arith}
use mathlib.Core.Path.{◌∙◌, ap}
use Rattle.integers.proofs.Wide.{low_mask, low_bits}
use Rattle.integers.proofs.low.Goals as goal

pub overflow_cast-result-2 : goal.overflow_cast-result-2
overflow_cast-result-2 c = rw (low_mask _) (tt, record { fits = omega arith })

pub returns : goal.returns
returns c = ap nat_abs (low_mask (of_z w64 c.args.n)) ∙ low_bits c.args.n c.ranges.n.sfits
