use Prim.Native.Nat.{◌-◌}
use Rattle.ops.specs.Machine.{ch_d0}
use Rattle.accumulator.proofs.Laws.{less-room, shifted_fits, shifted-value}
use Rattle.accumulator.proofs.shifted.Goals as goal

pub overflow_sub-result-2 : goal.overflow_sub-result-2
overflow_sub-result-2 c = shifted_fits _ _ c.ranges.a.fits (less-room c.args.d _ c.ranges.d.fits) (record { sfits = c.product.type_inv }) c.product.ensures

pub returns : goal.returns
returns c = shifted-value c.args.a (c.args.d - ch_d0) c.ranges.a.fits (less-room c.args.d ch_d0 c.ranges.d.fits) (record { sfits = c.product.type_inv }) c.product.ensures
