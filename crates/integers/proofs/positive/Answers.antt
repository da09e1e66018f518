-- `integers::positive` meets its contract: the two tests are those of the definition.
use borrow.Author.Tests.{eq-eqb, ne_eqb}
use Rattle.base.specs.Test.{if}
use Rattle.words.specs.Words.{positive}
use Rattle.integers.proofs.positive.Goals as goal

pub returns-then-w-eq0 : goal.returns-then-w-eq0
unfolding positive if
returns-then-w-eq0 c = rw (eq-eqb _ _ c.if-w-eq0.true)

pub returns-else-w-eq0 : goal.returns-else-w-eq0
unfolding positive if
returns-else-w-eq0 c = rw (ne_eqb _ _ c.if-w-eq0.false)
