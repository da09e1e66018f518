use Prim.Native.Nat.{ℕ, ◌+◌}
use mathlib.Core.Path.{ap}
use native.Mathlib.Omega.{arith}
use Rattle.ops.specs.Machine.{ch_d0}
use Rattle.accumulator.proofs.Laws.{digit-is, digit_lt}
use Rattle.accumulator.proofs.last_digit.Goals as goal

pub overflow_add-result : goal.overflow_add-result
overflow_add-result c = omega (arith, digit-is c.args.a c.ranges.a.fits (record { sfits = c.remainder.type_inv }) c.remainder.ensures c.low-x.ensures (record { sfits = c.negation.type_inv }) c.negation.ensures c.low.ensures, digit_lt c.args.a c.ranges.a.fits c.requires)

pub returns : goal.returns
returns c = ap (λ (x : ℕ). ch_d0 + x) (digit-is c.args.a c.ranges.a.fits (record { sfits = c.remainder.type_inv }) c.remainder.ensures c.low-x.ensures (record { sfits = c.negation.type_inv }) c.negation.ensures c.low.ensures)
