use mathlib.Core.Path.{sym}
use Rattle.base.specs.Test.{if}
use Rattle.rules.specs.Operand.{moved_of}
use Rattle.exec_core.proofs.Laws.{moved-still}
use Rattle.exec_core.proofs.chars.char_act.Goals as goal

pub returns-then-o-eq-RISING : goal.returns-then-o-eq-RISING
unfolding moved_of if
returns-then-o-eq-RISING c = rw (c.if-o-eq-RISING.true, c.char_after.ensures, c.index-x.ensures)

pub returns-then-o-eq-FALLING : goal.returns-then-o-eq-FALLING
unfolding moved_of if
returns-then-o-eq-FALLING c = rw (c.if-o-eq-FALLING.true, c.char_before.ensures, c.index-x.ensures)

pub returns-else-o-eq-FALLING : goal.returns-else-o-eq-FALLING
returns-else-o-eq-FALLING c = sym (moved-still _ _ _ c.requires c.if-o-eq-RISING.false c.if-o-eq-FALLING.false)
