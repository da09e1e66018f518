-- `reals::real_of` meets its contract: the pair is no NaN behind the finite test, and what it holds is a value.
use mathlib.Core.Path.{sym, subst}
use mathlib.Core.Bool.{not}
use lib.Dec.{T}
use Rattle.real_rules.proofs.Laws.{pair-no-nan, pair-finite, pair-beyond}
use Rattle.reals.proofs.real_of.Goals as goal

pub float_from_bits-result : goal.float_from_bits-result
float_from_bits-result c = rw c.bits_of.ensures (pair-no-nan _ _ c.ranges.lo.fits (subst T c.finite_high.ensures (subst T (sym c.if-finite_high.true) tt)))

pub returns-then-finite_high : goal.returns-then-finite_high
returns-then-finite_high c = rw c.bits_of.ensures (sym (pair-finite _ _ c.ranges.lo.fits (subst T c.finite_high.ensures (subst T (sym c.if-finite_high.true) tt))))

pub returns : goal.returns
returns c = sym (pair-beyond _ _ c.ranges.lo.fits c.ranges.hi.fits (subst (λ b. T (not b)) c.finite_high.ensures (subst (λ b. T (not b)) (sym c.if-finite_high.false) tt)))
