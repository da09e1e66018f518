use borrow.Author.Tests.{ne_eqb}
use Rattle.base.specs.Test.{if}
use Rattle.exec_core.specs.Entry.{held_here}
use Rattle.exec_core.proofs.operands.held_here.Goals as goal

pub returns-then-k-eq-ADDRESS : goal.returns-then-k-eq-ADDRESS
unfolding held_here if
returns-then-k-eq-ADDRESS c = rw c.if-k-eq-ADDRESS.true

pub returns : goal.returns
unfolding held_here if
returns c = rw (ne_eqb _ _ c.if-k-eq-ADDRESS.false)
