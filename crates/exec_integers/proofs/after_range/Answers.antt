use mathlib.Core.Path.{◌∙◌}
use borrow.Author.Tests.{le-leb, lt-leb, ne_eqb}
use Rattle.base.specs.Test.{if}
use Rattle.exec_core.specs.Views.{way_of}
use Rattle.exec_integers.proofs.after_range.Goals as goal

pub returns-then-i-le-CFP_M : goal.returns-then-i-le-CFP_M
unfolding way_of if
returns-then-i-le-CFP_M c = rw (le-leb _ _ c.if-i-le-CFP_M.true)

pub returns-then-t-b-eq-PLACE_KIND : goal.returns-then-t-b-eq-PLACE_KIND
unfolding if
returns-then-t-b-eq-PLACE_KIND c = c.to_second.ensures ∙ rw (lt-leb _ _ c.if-i-le-CFP_M.false)

pub returns : goal.returns
unfolding way_of if
returns c = rw (lt-leb _ _ c.if-i-le-CFP_M.false, ne_eqb _ _ c.if-t-b-eq-PLACE_KIND.false)
