-- `integers::difference` meets its contract: the difference of two words has room in 64 bits.
use lib.IntN.{◌-ℤ◌}
use Rattle.integers.proofs.Wide.{machine-fits, machine-value, difference-room}
use Rattle.integers.proofs.difference.Goals as goal

pub overflow_sub-result : goal.overflow_sub-result
overflow_sub-result c =
    machine-fits ◌-ℤ◌ difference-room _ _ c.ranges.a.fits c.ranges.b.fits
    c.signed.ensures c.signed-2.ensures

pub returns : goal.returns
returns c =
    machine-value ◌-ℤ◌ difference-room _ _ c.ranges.a.fits c.ranges.b.fits
    c.signed.ensures c.signed-2.ensures
