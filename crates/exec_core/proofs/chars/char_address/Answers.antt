use Rattle.base.specs.Test.{if}
use Rattle.rules.specs.Operand.{spot_of}
use Rattle.exec_core.proofs.Laws.{spot-pointing}
use Rattle.exec_core.proofs.chars.char_address.Goals as goal

pub returns-then-o-eq-FALLING : goal.returns-then-o-eq-FALLING
unfolding spot_of if
returns-then-o-eq-FALLING c = rw (c.if-o-eq-FALLING.true, c.char_before.ensures, c.index-x.ensures)

pub returns : goal.returns
returns c = rw c.index-x.ensures (spot-pointing _ _ _ c.requires c.if-o-eq-FALLING.false)
