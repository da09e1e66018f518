-- `asm_operations::sorts::placed_sort` meets its contract: by the class.
use Rattle.asm_operations.proofs.Laws.{placed_by_lem}
use Rattle.asm_types.specs.Views.{operation_view}
use Rattle.base.specs.Test.{if}
use borrow.Author.Tests.{eq-eqb, ne_eqb}
use native.Mathlib.Omega.{arith}
use Rattle.asm_operations.proofs.sorts.placed_sort.Goals as goal

pub returns-then-k-eq-ENT : goal.returns-then-k-eq-ENT
unfolding if
returns-then-k-eq-ENT c = (rw (placed_by_lem (operation_view c.args.o) _ c.class_of-k.ensures, eq-eqb _ 6 c.if-k-eq-ENT.true), omega arith)

pub returns-then-k-eq-PRC : goal.returns-then-k-eq-PRC
unfolding if
returns-then-k-eq-PRC c = (rw (placed_by_lem (operation_view c.args.o) _ c.class_of-k.ensures, ne_eqb _ 6 c.if-k-eq-ENT.false, eq-eqb _ 17 c.if-k-eq-PRC.true), omega arith)

pub returns-then-k-eq-RTN : goal.returns-then-k-eq-RTN
unfolding if
returns-then-k-eq-RTN c = (rw (placed_by_lem (operation_view c.args.o) _ c.class_of-k.ensures, ne_eqb _ 6 c.if-k-eq-ENT.false, ne_eqb _ 17 c.if-k-eq-PRC.false, eq-eqb _ 7 c.if-k-eq-RTN.true), omega arith)

pub returns-then-is_labelless : goal.returns-then-is_labelless
unfolding if
returns-then-is_labelless c = (rw (placed_by_lem (operation_view c.args.o) _ c.class_of-k.ensures, ne_eqb _ 6 c.if-k-eq-ENT.false, ne_eqb _ 17 c.if-k-eq-PRC.false, ne_eqb _ 7 c.if-k-eq-RTN.false, ← c.is_labelless.ensures, c.if-is_labelless.true), omega arith)

pub returns : goal.returns
unfolding if
returns c = (rw (placed_by_lem (operation_view c.args.o) _ c.class_of-k.ensures, ne_eqb _ 6 c.if-k-eq-ENT.false, ne_eqb _ 17 c.if-k-eq-PRC.false, ne_eqb _ 7 c.if-k-eq-RTN.false, ← c.is_labelless.ensures, c.if-is_labelless.false), omega arith)
