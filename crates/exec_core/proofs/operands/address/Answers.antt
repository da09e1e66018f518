use Rattle.base.specs.Test.{if}
use Rattle.rules.specs.Operand.{spot_of}
use Rattle.exec_core.proofs.Laws.{spot-sum}
use Rattle.exec_core.proofs.operands.address.Goals as goal

pub returns-then-o-eq-FALLING : goal.returns-then-o-eq-FALLING
unfolding spot_of if
returns-then-o-eq-FALLING c = rw (c.if-o-eq-FALLING.true, c.wide.ensures, c.word_before.ensures, c.index-x.ensures)

pub returns : goal.returns
returns c = rw (c.sum.ensures, c.index-x.ensures) (spot-sum _ _ c.requires.1 c.requires.0 c.requires.2 c.if-o-eq-FALLING.false)
