-- `reals::whole_of` meets its contract: the exponent's field is below that of 1, from that of 2^32 on, or between, where the digits are shifted.
use Prim.Native.Nat.{ℕ, ◌<◌, ◌≤◌}
use mathlib.Core.Path.{sym, subst, ◌∙◌}
use Rattle.real_rules.proofs.Wholes.{whole-small, whole-large, whole_by}
use Rattle.reals.proofs.whole_of.Goals as goal

pub returns-then-exponent-lt-OF_ONE : goal.returns-then-exponent-lt-OF_ONE
returns-then-exponent-lt-OF_ONE c = sym (whole-small _ _ c.ranges.lo.fits c.ranges.hi.fits (subst (λ (x : ℕ). x < 1023) c.exponent_of-exponent.ensures c.if-exponent-lt-OF_ONE.true))

pub returns-then-exponent-ge-OF_SPAN : goal.returns-then-exponent-ge-OF_SPAN
returns-then-exponent-ge-OF_SPAN c = sym (whole-large _ _ c.ranges.lo.fits c.ranges.hi.fits (subst (λ (x : ℕ). 1055 ≤ x) c.exponent_of-exponent.ensures c.if-exponent-ge-OF_SPAN.true))

pub returns : goal.returns
returns c = c.ranged.ensures ∙ whole_by _ _ c.ranges.lo.fits c.ranges.hi.fits _ _ c.exponent_of-exponent.ensures c.digits_of.ensures c.if-exponent-lt-OF_ONE.false c.if-exponent-ge-OF_SPAN.false
