-- `asm_operations::sorts::sort_of` meets its contract: by the section.
use Rattle.language.specs.Symbol as Symbol
use Rattle.base.specs.Test.{if}
use borrow.Author.Tests.{eq-eqb, ne_eqb, le-leb, lt-leb}
use mathlib.Core.Path.{◌∙◌}
use native.Mathlib.Omega.{arith}
use Rattle.asm_operations.proofs.sorts.sort_of.Goals as goal

pub returns-then-is_divider : goal.returns-then-is_divider
unfolding Symbol.sort_at if
returns-then-is_divider c = (rw (← c.is_divider.ensures, c.if-is_divider.true), omega arith)

pub returns-then-opened-eq0 : goal.returns-then-opened-eq0
unfolding Symbol.sort_at if
returns-then-opened-eq0 c = (rw (← c.is_divider.ensures, c.if-is_divider.false, eq-eqb _ 0 c.if-opened-eq0.true), omega arith)

pub returns-then-opened-eq1 : goal.returns-then-opened-eq1
unfolding Symbol.sort_at if
returns-then-opened-eq1 c = (c.declared_sort.ensures.0 ∙ rw (← c.is_divider.ensures, c.if-is_divider.false, ne_eqb _ 0 c.if-opened-eq0.false, eq-eqb _ 1 c.if-opened-eq1.true), omega arith)

pub returns-then-opened-eq2 : goal.returns-then-opened-eq2
unfolding Symbol.sort_at if
returns-then-opened-eq2 c = (rw (← c.is_divider.ensures, c.if-is_divider.false, ne_eqb _ 0 c.if-opened-eq0.false, ne_eqb _ 1 c.if-opened-eq1.false, eq-eqb _ 2 c.if-opened-eq2.true), omega arith)

pub returns-then-opened-le4 : goal.returns-then-opened-le4
unfolding Symbol.sort_at if
returns-then-opened-le4 c = (rw (← c.is_divider.ensures, c.if-is_divider.false, ne_eqb _ 0 c.if-opened-eq0.false, ne_eqb _ 1 c.if-opened-eq1.false, ne_eqb _ 2 c.if-opened-eq2.false, le-leb _ 4 c.if-opened-le4.true), omega arith)

pub returns : goal.returns
unfolding Symbol.sort_at if
returns c = (c.placed_sort.ensures.0 ∙ rw (← c.is_divider.ensures, c.if-is_divider.false, ne_eqb _ 0 c.if-opened-eq0.false, ne_eqb _ 1 c.if-opened-eq1.false, ne_eqb _ 2 c.if-opened-eq2.false, lt-leb _ 4 c.if-opened-le4.false), omega arith)
