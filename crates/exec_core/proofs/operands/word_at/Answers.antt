use borrow.Author.Tests.{lt-ltb, le-ltb, eq-eqb, ne_eqb}
use Rattle.base.specs.Test.{if}
use Rattle.rules.specs.Operand.{word_at}
use Rattle.exec_core.proofs.operands.word_at.Goals as goal

pub returns-then-i-k : goal.returns-then-i-k
unfolding word_at if
returns-then-i-k c = simp (eq-eqb _ _ c.if-a-eq0.true, lt-ltb _ _ c.if-i-k.true)

pub returns-else-i-k : goal.returns-else-i-k
unfolding word_at if
returns-else-i-k c = simp (eq-eqb _ _ c.if-a-eq0.true, le-ltb _ _ c.if-i-k.false)

pub returns-else-a-eq0 : goal.returns-else-a-eq0
unfolding word_at if
returns-else-a-eq0 c = simp (ne_eqb _ _ c.if-a-eq0.false)
