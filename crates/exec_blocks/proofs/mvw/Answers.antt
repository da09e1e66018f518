use Rattle.exec_blocks.specs.Blocks.{words_fit}
use native.Mathlib.Omega.{arith}
use mathlib.Core.Path.{sym, ◌∙◌}
use borrow.Author.Tests.{lt-ltb, le-ltb, eq-eqb, ne_eqb}
use Rattle.base.specs.Test.{if}
use Rattle.rules.specs.Exec.{mvw_of, ranged}
use Rattle.exec_blocks.proofs.Laws.{words-within}
use Rattle.exec_blocks.proofs.mvw.Goals as goal

pub returns-then-n-ne0 : goal.returns-then-n-ne0
unfolding mvw_of if
returns-then-n-ne0 c = rw (ne_eqb _ _ c.if-n-ne0.true)

pub overflow_add-result : goal.overflow_add-result
overflow_add-result c = omega (arith, c.requires.0.near)

pub returns-then-n-eq0 : goal.returns-then-n-eq0
unfolding mvw_of if
returns-then-n-eq0 c = rw (eq-eqb _ _ c.if-n-ne0.false, eq-eqb _ _ c.if-n-eq0.true)

pub returns-then-index-c : goal.returns-then-index-c
unfolding mvw_of ranged words_fit if
returns-then-index-c c = rw (eq-eqb _ _ c.if-n-ne0.false, ne_eqb _ _ c.if-n-eq0.false, ← c.words_fit.ensures, c.if-words_fit.true, lt-ltb _ _ (rw c.index.ensures at c.if-index-c.true))

pub move_words-requires : goal.move_words-requires
move_words-requires c =
    let q = words-within _ _ _ _ (sym c.words_fit.ensures ∙ c.if-words_fit.true) in
    (omega (arith, q.0, c.index-then-words_fit.ensures, c.index-then-words_fit-3.ensures), omega (arith, q.1, c.index-then-words_fit-2.ensures, c.index-then-words_fit-3.ensures), c.requires.1)

pub overflow_add-a : goal.overflow_add-a
overflow_add-a c = omega (arith, (words-within _ _ _ _ (sym c.words_fit.ensures ∙ c.if-words_fit.true)).0, c.requires.1)

pub overflow_add-e : goal.overflow_add-e
overflow_add-e c = omega (arith, (words-within _ _ _ _ (sym c.words_fit.ensures ∙ c.if-words_fit.true)).1, c.requires.1)

pub overflow_add-result-then-words_fit : goal.overflow_add-result-then-words_fit
overflow_add-result-then-words_fit c = omega (arith, c.requires.0.near)

pub returns-then-words_fit : goal.returns-then-words_fit
unfolding mvw_of ranged words_fit if
returns-then-words_fit c = rw (eq-eqb _ _ c.if-n-ne0.false, ne_eqb _ _ c.if-n-eq0.false, ← c.words_fit.ensures, c.if-words_fit.true, le-ltb _ _ (rw c.index.ensures at c.if-index-c.false), c.leave.ensures, c.move_words.ensures, c.index-then-words_fit.ensures, c.index-then-words_fit-2.ensures, c.index-then-words_fit-3.ensures)

pub returns : goal.returns
unfolding mvw_of ranged words_fit if
returns c = rw (eq-eqb _ _ c.if-n-ne0.false, ne_eqb _ _ c.if-n-eq0.false, ← c.words_fit.ensures, c.if-words_fit.false)
