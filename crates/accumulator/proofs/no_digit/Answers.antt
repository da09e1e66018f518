use borrow.Author.Tests.{lt-ltb, le-ltb}
use Rattle.base.specs.Test.{◌or◌}
use Rattle.accumulator.proofs.no_digit.Goals as goal

pub returns-then-positive : goal.returns-then-positive
unfolding ◌or◌
returns-then-positive c = rw (← c.positive.ensures, c.if-positive.true)

pub returns-then-d-lt-CH_D0 : goal.returns-then-d-lt-CH_D0
unfolding ◌or◌
returns-then-d-lt-CH_D0 c = rw (← c.positive.ensures, c.if-positive.false, lt-ltb _ _ c.if-d-lt-CH_D0.true)

pub returns : goal.returns
unfolding ◌or◌
returns c = rw (← c.positive.ensures, c.if-positive.false, le-ltb _ _ c.if-d-lt-CH_D0.false)
