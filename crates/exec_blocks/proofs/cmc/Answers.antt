use native.Mathlib.Omega.{arith}
use mathlib.Core.Path.{sym, ◌∙◌}
use borrow.Author.Tests.{ne_eqb}
use Rattle.base.specs.Test.{if, ◌or◌}
use Rattle.rules.specs.Exec.{cmc_of, compared}
use Rattle.exec_core.specs.Views.{way_of}
use Rattle.exec_core.proofs.Laws.{place-kind}
use Rattle.exec_blocks.proofs.Laws.{both-within}
use Rattle.exec_blocks.proofs.cmc.Goals as goal

pub overflow_add-result : goal.overflow_add-result
overflow_add-result c = omega (arith, c.requires.0.near)

pub returns-then-n-eq0 : goal.returns-then-n-eq0
unfolding cmc_of compared way_of if ◌or◌
returns-then-n-eq0 c = rw (c.if-n-eq0.true, c.leave.ensures)

pub order_chars-k-requires : goal.order_chars-k-requires
order_chars-k-requires c =
    let q = both-within _ _ _ _ _ (sym c.both_fit.ensures ∙ c.if-both_fit.true) in
    (q.0, q.1, c.requires.1)

pub branch-t-requires : goal.branch-t-requires
branch-t-requires c = (c.requires.0.inside, c.requires.0.near, place-kind c.requires.0.one, place-kind c.requires.0.two, c.order_chars-k.ensures.1)

pub returns-then-both_fit : goal.returns-then-both_fit
unfolding cmc_of if ◌or◌
returns-then-both_fit c = rw (ne_eqb _ _ c.if-n-eq0.false, ← c.both_fit.ensures, c.if-both_fit.true, c.branch-t.ensures, c.leave-then-both_fit.ensures, c.order_chars-k.ensures.0)

pub returns : goal.returns
unfolding cmc_of if ◌or◌
returns c = rw (ne_eqb _ _ c.if-n-eq0.false, ← c.both_fit.ensures, c.if-both_fit.false)
