use Rattle.base.specs.Test.{◌and◌}
use Rattle.exec_blocks.specs.Blocks.{words_fit}
use mathlib.Core.Path.{◌∙◌}
use borrow.Author.Tests.{eq-eqb, ne_eqb}
use Rattle.exec_blocks.proofs.words_fit.Goals as goal

pub returns-then-e-eq0 : goal.returns-then-e-eq0
unfolding words_fit ◌and◌
returns-then-e-eq0 c = c.both_fit.ensures ∙ rw (eq-eqb _ _ c.if-a-eq0.true, eq-eqb _ _ c.if-e-eq0.true)

pub returns-else-e-eq0 : goal.returns-else-e-eq0
unfolding words_fit ◌and◌
returns-else-e-eq0 c = rw (eq-eqb _ _ c.if-a-eq0.true, ne_eqb _ _ c.if-e-eq0.false)

pub returns-else-a-eq0 : goal.returns-else-a-eq0
unfolding words_fit ◌and◌
returns-else-a-eq0 c = rw (ne_eqb _ _ c.if-a-eq0.false)
