use borrow.Author.Tests.{le-leb, lt-leb}
use Rattle.base.specs.Test.{if}
use Rattle.accumulator.proofs.in_range_or.Goals as goal

pub returns-then-i-le-CFP_M : goal.returns-then-i-le-CFP_M
unfolding if
returns-then-i-le-CFP_M c = rw (le-leb _ _ c.if-i-le-CFP_M.true)

pub returns-else-i-le-CFP_M : goal.returns-else-i-le-CFP_M
unfolding if
returns-else-i-le-CFP_M c = rw (lt-leb _ _ c.if-i-le-CFP_M.false)
