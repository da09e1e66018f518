use mathlib.Core.Path.{◌∙◌}
use Rattle.base.specs.Test.{if}
use Rattle.exec_core.specs.Views.{way_of}
use Rattle.exec_branches.proofs.first_if.Goals as goal

pub returns-then-q : goal.returns-then-q
unfolding if
returns-then-q c = c.to_first.ensures ∙ rw c.if-q.true

pub returns : goal.returns
unfolding way_of if
returns c = rw c.if-q.false
