-- `reals::ranged` meets its contract: the four cases of sign and range.
use mathlib.Core.Path.{sym}
use Rattle.real_rules.proofs.Wholes.{ranged-by-positive, ranged-by-over, ranged-by-negative, ranged-by-under}
use Rattle.reals.proofs.ranged.Goals as goal

pub returns-then-n : goal.returns-then-n
returns-then-n c = sym (ranged-by-negative _ _ c.if-negative.true c.if-n.true)

pub returns-then-negative : goal.returns-then-negative
returns-then-negative c = sym (ranged-by-under _ _ c.if-negative.true c.if-n.false)

pub returns-then-n-2 : goal.returns-then-n-2
returns-then-n-2 c = sym (ranged-by-positive _ _ c.if-negative.false c.if-n-2.true)

pub returns : goal.returns
returns c = sym (ranged-by-over _ _ c.if-negative.false c.if-n-2.false)
