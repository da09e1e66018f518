-- `asm_symbols::uses::is_pair`: each return rewrites with the tests that led there.
use mathlib.Core.Path.{◌∙◌, refl}
use borrow.Author.Tests.{eq-eqb, ne_eqb}
use Rattle.base.specs.Test.{if}
use Rattle.asm_symbols.specs.Walk.{pairs_by}
use Rattle.asm_symbols.proofs.uses.is_pair.Goals as goal

pub returns-then-a-eq-INTERNAL : goal.returns-then-a-eq-INTERNAL
unfolding pairs_by if
returns-then-a-eq-INTERNAL c = rw (eq-eqb _ _ c.if-a-eq-INTERNAL.true) refl

pub returns-then-b-eq-GLOBAL : goal.returns-then-b-eq-GLOBAL
unfolding pairs_by if
returns-then-b-eq-GLOBAL c = rw (ne_eqb _ _ c.if-a-eq-INTERNAL.false, eq-eqb _ _ c.if-a-eq-ROUTINE.true, eq-eqb _ _ c.if-b-eq-GLOBAL.true) refl

pub returns-then-a-eq-ROUTINE : goal.returns-then-a-eq-ROUTINE
unfolding pairs_by if
returns-then-a-eq-ROUTINE c = rw (ne_eqb _ _ c.if-a-eq-INTERNAL.false, eq-eqb _ _ c.if-a-eq-ROUTINE.true, ne_eqb _ _ c.if-b-eq-GLOBAL.false) refl

pub returns-then-b-eq-ROUTINE : goal.returns-then-b-eq-ROUTINE
unfolding pairs_by if
returns-then-b-eq-ROUTINE c = rw (ne_eqb _ _ c.if-a-eq-INTERNAL.false, ne_eqb _ _ c.if-a-eq-ROUTINE.false, eq-eqb _ _ c.if-a-eq-GLOBAL.true, eq-eqb _ _ c.if-b-eq-ROUTINE.true) refl

pub returns-then-a-eq-GLOBAL : goal.returns-then-a-eq-GLOBAL
unfolding pairs_by if
returns-then-a-eq-GLOBAL c = c.is_among.ensures ∙ rw (ne_eqb _ _ c.if-a-eq-INTERNAL.false, ne_eqb _ _ c.if-a-eq-ROUTINE.false, eq-eqb _ _ c.if-a-eq-GLOBAL.true, ne_eqb _ _ c.if-b-eq-ROUTINE.false) refl

pub returns : goal.returns
unfolding pairs_by if
returns c = rw (ne_eqb _ _ c.if-a-eq-INTERNAL.false, ne_eqb _ _ c.if-a-eq-ROUTINE.false, ne_eqb _ _ c.if-a-eq-GLOBAL.false) refl
