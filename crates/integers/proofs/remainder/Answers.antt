-- `integers::remainder` meets its contract: the quotient of two words has room in 64 bits; by 0 the definition is the dividend.
use mathlib.Core.Path.{sym, ◌∙◌}
use lib.Signed.{quot_z, rem_z}
use Rattle.integers.proofs.Wide.{machine-fits, machine-value, quotient-room, remainder-room, bits_pos, signed_back, signed-zero, rem-zero}
use Rattle.integers.proofs.remainder.Goals as goal

pub nonzero_rem-result : goal.nonzero_rem-result
nonzero_rem-result c =
    let known = c.ranges in (
      bits_pos _ c.if-b-eq0.false known.b.fits c.signed-else-b-eq0-2.ensures,
      machine-fits quot_z quotient-room _ _ known.a.fits known.b.fits
          c.signed-else-b-eq0.ensures c.signed-else-b-eq0-2.ensures,
    )

pub returns-then-b-eq0 : goal.returns-then-b-eq0
returns-then-b-eq0 c =
    rw (signed-zero c.if-b-eq0.true)
    (signed_back _ c.ranges.a.fits c.signed.ensures ∙ sym (rem-zero _))

pub returns-else-b-eq0 : goal.returns-else-b-eq0
returns-else-b-eq0 c =
    let known = c.ranges in
    machine-value rem_z remainder-room _ _ known.a.fits known.b.fits
    c.signed-else-b-eq0.ensures c.signed-else-b-eq0-2.ensures
