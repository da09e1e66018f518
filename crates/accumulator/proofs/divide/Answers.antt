use native.Mathlib.Omega.{arith}
use borrow.Author.Tests.{eq-eqb, ne_eqb}
use Rattle.base.specs.Test.{if}
use Rattle.rules.specs.Exec.{divided}
use Rattle.accumulator.proofs.Laws.{accumulated-by}
use Rattle.accumulator.proofs.divide.Goals as goal

pub returns-then-v-eq0 : goal.returns-then-v-eq0
unfolding divided if
returns-then-v-eq0 c f e = rw (eq-eqb c.args.v 0 (omega (arith, c.if-v-eq0.true)))

pub returns-else-v-eq0 : goal.returns-else-v-eq0
unfolding divided if
returns-else-v-eq0 c f e =
    rw (ne_eqb c.args.v 0 (λ h. omega (arith, h, c.if-v-eq0.false)))
    (accumulated-by _ c.accumulate.ensures c.ranges.n e)
