use native.Mathlib.Omega.{arith}
use mathlib.Core.Path.{sym, ◌∙◌}
use borrow.Author.Tests.{lt-ltb, le-ltb, eq-eqb, ne_eqb}
use Rattle.base.specs.Test.{if}
use Rattle.rules.specs.Exec.{mvc_of, ranged}
use Rattle.exec_blocks.proofs.Laws.{both-within}
use Rattle.exec_blocks.proofs.mvc.Goals as goal

pub overflow_add-result : goal.overflow_add-result
overflow_add-result c = omega (arith, c.requires.0.near)

pub returns-then-n-eq0 : goal.returns-then-n-eq0
unfolding mvc_of if
returns-then-n-eq0 c = rw (eq-eqb _ _ c.if-n-eq0.true)

pub returns-then-index-c : goal.returns-then-index-c
unfolding mvc_of ranged if
returns-then-index-c c = rw (ne_eqb _ _ c.if-n-eq0.false, ← c.both_fit.ensures, c.if-both_fit.true, lt-ltb _ _ (rw c.index.ensures at c.if-index-c.true))

pub move_chars-requires : goal.move_chars-requires
move_chars-requires c =
    let q = both-within _ _ _ _ _ (sym c.both_fit.ensures ∙ c.if-both_fit.true) in
    (q.0, q.1, c.requires.1)

pub overflow_add-a : goal.overflow_add-a
overflow_add-a c = omega (arith, (both-within _ _ _ _ _ (sym c.both_fit.ensures ∙ c.if-both_fit.true)).0, c.requires.1)

pub overflow_add-e : goal.overflow_add-e
overflow_add-e c = omega (arith, (both-within _ _ _ _ _ (sym c.both_fit.ensures ∙ c.if-both_fit.true)).1, c.requires.1)

pub overflow_add-result-then-both_fit : goal.overflow_add-result-then-both_fit
overflow_add-result-then-both_fit c = omega (arith, c.requires.0.near)

pub returns-then-both_fit : goal.returns-then-both_fit
unfolding mvc_of ranged if
returns-then-both_fit c = rw (ne_eqb _ _ c.if-n-eq0.false, ← c.both_fit.ensures, c.if-both_fit.true, le-ltb _ _ (rw c.index.ensures at c.if-index-c.false), c.leave.ensures, c.move_chars.ensures)

pub returns : goal.returns
unfolding mvc_of ranged if
returns c = rw (ne_eqb _ _ c.if-n-eq0.false, ← c.both_fit.ensures, c.if-both_fit.false)
