-- `asm_operations::labels::wants_label` meets its contract: each return rewrites with the tests that led there.
use Rattle.asm_operations.proofs.Laws.{wants-by}
use Rattle.asm_types.specs.Views.{operation_view}
use Rattle.base.specs.Test.{◌or◌}
use borrow.Author.Tests.{eq-eqb, ne_eqb}
use mathlib.Core.Path.{refl}
use Rattle.asm_operations.proofs.labels.wants_label.Goals as goal

pub returns-then-n-eq-EXP : goal.returns-then-n-eq-EXP
unfolding ◌or◌
returns-then-n-eq-EXP c = rw (wants-by (operation_view c.args.o) _ _ c.code_of-n.ensures refl, eq-eqb _ 4 c.if-n-eq-EXP.true)

pub returns-then-n-eq-INP : goal.returns-then-n-eq-INP
unfolding ◌or◌
returns-then-n-eq-INP c = rw (wants-by (operation_view c.args.o) _ _ c.code_of-n.ensures refl, ne_eqb _ 4 c.if-n-eq-EXP.false, eq-eqb _ 5 c.if-n-eq-INP.true)

pub returns-then-n-eq-INR : goal.returns-then-n-eq-INR
unfolding ◌or◌
returns-then-n-eq-INR c = rw (wants-by (operation_view c.args.o) _ _ c.code_of-n.ensures refl, ne_eqb _ 4 c.if-n-eq-EXP.false, ne_eqb _ 5 c.if-n-eq-INP.false, eq-eqb _ 6 c.if-n-eq-INR.true)

pub returns-then-n-eq-GLB : goal.returns-then-n-eq-GLB
unfolding ◌or◌
returns-then-n-eq-GLB c = rw (wants-by (operation_view c.args.o) _ _ c.code_of-n.ensures refl, ne_eqb _ 4 c.if-n-eq-EXP.false, ne_eqb _ 5 c.if-n-eq-INP.false, ne_eqb _ 6 c.if-n-eq-INR.false, eq-eqb _ 7 c.if-n-eq-GLB.true)

pub returns-then-n-eq-EQU : goal.returns-then-n-eq-EQU
unfolding ◌or◌
returns-then-n-eq-EQU c = rw (wants-by (operation_view c.args.o) _ _ c.code_of-n.ensures refl, ne_eqb _ 4 c.if-n-eq-EXP.false, ne_eqb _ 5 c.if-n-eq-INP.false, ne_eqb _ 6 c.if-n-eq-INR.false, ne_eqb _ 7 c.if-n-eq-GLB.false, eq-eqb _ 8 c.if-n-eq-EQU.true)

pub returns-then-k-eq-PRC : goal.returns-then-k-eq-PRC
unfolding ◌or◌
returns-then-k-eq-PRC c = rw (wants-by (operation_view c.args.o) _ _ c.code_of-n.ensures c.class_of-k.ensures, ne_eqb _ 4 c.if-n-eq-EXP.false, ne_eqb _ 5 c.if-n-eq-INP.false, ne_eqb _ 6 c.if-n-eq-INR.false, ne_eqb _ 7 c.if-n-eq-GLB.false, ne_eqb _ 8 c.if-n-eq-EQU.false, eq-eqb _ 17 c.if-k-eq-PRC.true)

pub returns-then-k-eq-RTN : goal.returns-then-k-eq-RTN
unfolding ◌or◌
returns-then-k-eq-RTN c = rw (wants-by (operation_view c.args.o) _ _ c.code_of-n.ensures c.class_of-k.ensures, ne_eqb _ 4 c.if-n-eq-EXP.false, ne_eqb _ 5 c.if-n-eq-INP.false, ne_eqb _ 6 c.if-n-eq-INR.false, ne_eqb _ 7 c.if-n-eq-GLB.false, ne_eqb _ 8 c.if-n-eq-EQU.false, ne_eqb _ 17 c.if-k-eq-PRC.false, eq-eqb _ 7 c.if-k-eq-RTN.true)

pub returns : goal.returns
unfolding ◌or◌
returns c = rw (wants-by (operation_view c.args.o) _ _ c.code_of-n.ensures c.class_of-k.ensures, ne_eqb _ 4 c.if-n-eq-EXP.false, ne_eqb _ 5 c.if-n-eq-INP.false, ne_eqb _ 6 c.if-n-eq-INR.false, ne_eqb _ 7 c.if-n-eq-GLB.false, ne_eqb _ 8 c.if-n-eq-EQU.false, ne_eqb _ 17 c.if-k-eq-PRC.false, ne_eqb _ 7 c.if-k-eq-RTN.false)
