-- `asm_symbols::uses::is_routine_global`: each return rewrites with the tests that led there.
use mathlib.Core.Path.{refl}
use borrow.Author.Tests.{eq-eqb, ne_eqb}
use Rattle.base.specs.Test.{if}
use Rattle.asm_symbols.specs.Walk.{two_by}
use Rattle.asm_symbols.proofs.uses.is_routine_global.Goals as goal

pub returns-then-a-eq-ROUTINE : goal.returns-then-a-eq-ROUTINE
unfolding two_by if
returns-then-a-eq-ROUTINE c = rw (eq-eqb _ _ c.if-a-eq-ROUTINE.true) refl

pub returns-then-a-eq-GLOBAL : goal.returns-then-a-eq-GLOBAL
unfolding two_by if
returns-then-a-eq-GLOBAL c = rw (ne_eqb _ _ c.if-a-eq-ROUTINE.false, eq-eqb _ _ c.if-a-eq-GLOBAL.true) refl

pub returns : goal.returns
unfolding two_by if
returns c = rw (ne_eqb _ _ c.if-a-eq-ROUTINE.false, ne_eqb _ _ c.if-a-eq-GLOBAL.false) refl
