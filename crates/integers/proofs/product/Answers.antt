-- `integers::product` meets its contract: the product of two words has room in 64 bits.
use lib.IntN.{◌*ℤ◌}
use Rattle.integers.proofs.Wide.{machine-fits, machine-value, product-room}
use Rattle.integers.proofs.product.Goals as goal

pub overflow_mul-result : goal.overflow_mul-result
overflow_mul-result c =
    machine-fits ◌*ℤ◌ product-room _ _ c.ranges.a.fits c.ranges.b.fits
    c.signed.ensures c.signed-2.ensures

pub returns : goal.returns
returns c =
    machine-value ◌*ℤ◌ product-room _ _ c.ranges.a.fits c.ranges.b.fits
    c.signed.ensures c.signed-2.ensures
