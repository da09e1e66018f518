use native.Mathlib.Omega.{arith}
use mathlib.Core.Path.{sym, ◌∙◌}
use borrow.Author.Tests.{lt-ltb, le-ltb, eq-eqb, ne_eqb}
use Rattle.base.specs.Test.{if}
use Rattle.rules.specs.Exec.{trc_of, ranged}
use Rattle.exec_blocks.proofs.Laws.{both-within}
use Rattle.exec_blocks.proofs.trc.Goals as goal

pub overflow_add-result : goal.overflow_add-result
overflow_add-result c = omega (arith, c.requires.0.near)

pub returns-then-n-eq0 : goal.returns-then-n-eq0
unfolding trc_of if
returns-then-n-eq0 c = rw (eq-eqb _ _ c.if-n-eq0.true, c.leave.ensures)

pub returns-then-index-c : goal.returns-then-index-c
unfolding trc_of ranged if
returns-then-index-c c = rw (ne_eqb _ _ c.if-n-eq0.false, ← c.both_fit.ensures, c.if-both_fit.true, lt-ltb _ _ (rw c.index.ensures at c.if-index-c.true))

pub translate-requires : goal.translate-requires
translate-requires c =
    let q = both-within _ _ _ _ _ (sym c.both_fit.ensures ∙ c.if-both_fit.true) in
    (q.0, q.1, c.requires.1)

pub overflow_add-result-then-both_fit : goal.overflow_add-result-then-both_fit
overflow_add-result-then-both_fit c = omega (arith, c.requires.0.near)

pub returns-then-both_fit : goal.returns-then-both_fit
unfolding trc_of ranged if
returns-then-both_fit c = rw (ne_eqb _ _ c.if-n-eq0.false, ← c.both_fit.ensures, c.if-both_fit.true, le-ltb _ _ (rw c.index.ensures at c.if-index-c.false), c.leave-then-both_fit.ensures, c.translate.ensures)

pub returns : goal.returns
unfolding trc_of ranged if
returns c = rw (ne_eqb _ _ c.if-n-eq0.false, ← c.both_fit.ensures, c.if-both_fit.false)
