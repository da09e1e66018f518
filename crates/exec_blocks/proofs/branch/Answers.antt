use native.Mathlib.Omega.{arith}
use mathlib.Core.Path.{◌≡◌, ◌∙◌}
use Rattle.base.specs.Test.{if}
use Rattle.exec_core.specs.Views.{way_of}
use Rattle.exec_blocks.proofs.branch.Goals as goal

pub returns-then-k-eq1 : goal.returns-then-k-eq1
returns-then-k-eq1 c = c.to_first.ensures ∙ rw c.if-k-eq1.true

pub returns-then-k-eq2 : goal.returns-then-k-eq2
returns-then-k-eq2 c = c.to_second.ensures ∙ rw c.if-k-eq2.true

pub returns : goal.returns
unfolding way_of if
returns c = let k : c.args.k ≡ 0 = omega (arith, c.if-k-eq1.false, c.if-k-eq2.false, c.requires.4) in rw k
