-- `integers::sum` meets its contract: the sum of two words has room in 64 bits.
use lib.IntN.{◌+ℤ◌}
use Rattle.integers.proofs.Wide.{machine-fits, machine-value, sum_room}
use Rattle.integers.proofs.sum.Goals as goal

pub overflow_add-result : goal.overflow_add-result
overflow_add-result c =
    machine-fits ◌+ℤ◌ sum_room _ _ c.ranges.a.fits c.ranges.b.fits
    c.signed.ensures c.signed-2.ensures

pub returns : goal.returns
returns c =
    machine-value ◌+ℤ◌ sum_room _ _ c.ranges.a.fits c.ranges.b.fits
    c.signed.ensures c.signed-2.ensures
