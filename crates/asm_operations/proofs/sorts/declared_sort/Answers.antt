-- `asm_operations::sorts::declared_sort` meets its contract: by the code.
use Rattle.asm_operations.proofs.Laws.{declared-by}
use Rattle.asm_types.specs.Views.{operation_view}
use Rattle.base.specs.Test.{if}
use borrow.Author.Tests.{eq-eqb, ne_eqb}
use native.Mathlib.Omega.{arith}
use Rattle.asm_operations.proofs.sorts.declared_sort.Goals as goal

pub returns-then-n-eq-EXP : goal.returns-then-n-eq-EXP
unfolding if
returns-then-n-eq-EXP c = (rw (declared-by (operation_view c.args.o) _ c.code_of-n.ensures, eq-eqb _ 4 c.if-n-eq-EXP.true), omega arith)

pub returns-then-n-eq-INP : goal.returns-then-n-eq-INP
unfolding if
returns-then-n-eq-INP c = (rw (declared-by (operation_view c.args.o) _ c.code_of-n.ensures, ne_eqb _ 4 c.if-n-eq-EXP.false, eq-eqb _ 5 c.if-n-eq-INP.true), omega arith)

pub returns-then-n-eq-INR : goal.returns-then-n-eq-INR
unfolding if
returns-then-n-eq-INR c = (rw (declared-by (operation_view c.args.o) _ c.code_of-n.ensures, ne_eqb _ 4 c.if-n-eq-EXP.false, ne_eqb _ 5 c.if-n-eq-INP.false, eq-eqb _ 6 c.if-n-eq-INR.true), omega arith)

pub returns-then-n-eq-GLB : goal.returns-then-n-eq-GLB
unfolding if
returns-then-n-eq-GLB c = (rw (declared-by (operation_view c.args.o) _ c.code_of-n.ensures, ne_eqb _ 4 c.if-n-eq-EXP.false, ne_eqb _ 5 c.if-n-eq-INP.false, ne_eqb _ 6 c.if-n-eq-INR.false, eq-eqb _ 7 c.if-n-eq-GLB.true), omega arith)

pub returns : goal.returns
unfolding if
returns c = (rw (declared-by (operation_view c.args.o) _ c.code_of-n.ensures, ne_eqb _ 4 c.if-n-eq-EXP.false, ne_eqb _ 5 c.if-n-eq-INP.false, ne_eqb _ 6 c.if-n-eq-INR.false, ne_eqb _ 7 c.if-n-eq-GLB.false), omega arith)
