use borrow.Author.Tests.{lt-ltb, le-ltb}
use mathlib.Core.Path.{◌∙◌}
use Rattle.base.specs.Test.{if}
use Rattle.exec_core.specs.Views.{way_of}
use Rattle.exec_moves.proofs.overflow.Goals as goal

pub returns-then-sum-gt-CFP_M : goal.returns-then-sum-gt-CFP_M
unfolding if
returns-then-sum-gt-CFP_M c = c.to_third.ensures ∙ rw (lt-ltb _ _ (rw c.sum.ensures at c.if-sum-gt-CFP_M.true))

pub returns : goal.returns
unfolding way_of if
returns c = rw (le-ltb _ _ (rw c.sum.ensures at c.if-sum-gt-CFP_M.false))
