-- `integers::quotient` meets its contract: the quotient of two words has room in 64 bits; by 0 the definition is 0.
use Rattle.words.specs.Words.{signed}
use mathlib.Core.Path.{sym}
use lib.Signed.{quot_z}
use Rattle.integers.proofs.Wide.{machine-fits, machine-value, quotient-room, bits_pos, signed-zero, quot-zero}
use Rattle.integers.proofs.quotient.Goals as goal

pub nonzero_div-result : goal.nonzero_div-result
nonzero_div-result c =
    let known = c.ranges in (
      bits_pos _ c.if-b-eq0.false known.b.fits c.signed-else-b-eq0.ensures,
      machine-fits quot_z quotient-room _ _ known.a.fits known.b.fits
          c.signed.ensures c.signed-else-b-eq0.ensures,
    )

pub returns-then-b-eq0 : goal.returns-then-b-eq0
returns-then-b-eq0 c = rw (signed-zero c.if-b-eq0.true) (sym (quot-zero (signed c.args.a)))

pub returns-else-b-eq0 : goal.returns-else-b-eq0
returns-else-b-eq0 c =
    let known = c.ranges in
    machine-value quot_z quotient-room _ _ known.a.fits known.b.fits
    c.signed.ensures c.signed-else-b-eq0.ensures
