-- `asm_sections::of_section` meets its contract: the codes in their order.
use Rattle.asm_sections.proofs.Laws.{section-by}
use Rattle.asm_types.specs.Views.{operation_view}
use Rattle.base.specs.Test.{if}
use borrow.Author.Tests.{eq-eqb, ne_eqb, le-leb, lt-leb}
use mathlib.Core.Path.{◌∙◌}
use Rattle.asm_sections.proofs.of_section.Goals as goal

pub returns-then-n-eq-SEC : goal.returns-then-n-eq-SEC
unfolding if
returns-then-n-eq-SEC c = rw (section-by c.args.opened (operation_view c.args.o) _ c.code_of-n.ensures, eq-eqb _ 0 c.if-n-eq-SEC.true)

pub returns-then-n-le-EJC : goal.returns-then-n-le-EJC
unfolding if
returns-then-n-le-EJC c = rw (section-by c.args.opened (operation_view c.args.o) _ c.code_of-n.ensures, ne_eqb _ 0 c.if-n-eq-SEC.false, le-leb _ 3 c.if-n-le-EJC.true)

pub returns-then-n-le-GLB : goal.returns-then-n-le-GLB
unfolding if
returns-then-n-le-GLB c = c.within.ensures ∙ rw (section-by c.args.opened (operation_view c.args.o) _ c.code_of-n.ensures, ne_eqb _ 0 c.if-n-eq-SEC.false, lt-leb _ 3 c.if-n-le-EJC.false, le-leb _ 7 c.if-n-le-GLB.true)

pub returns-then-n-eq-EQU : goal.returns-then-n-eq-EQU
unfolding if
returns-then-n-eq-EQU c = c.within-then-n-eq-EQU.ensures ∙ rw (section-by c.args.opened (operation_view c.args.o) _ c.code_of-n.ensures, ne_eqb _ 0 c.if-n-eq-SEC.false, lt-leb _ 3 c.if-n-le-EJC.false, lt-leb _ 7 c.if-n-le-GLB.false, eq-eqb _ 8 c.if-n-eq-EQU.true)

pub returns-then-n-le-DTC : goal.returns-then-n-le-DTC
unfolding if
returns-then-n-le-DTC c = c.within-then-n-le-DTC.ensures ∙ rw (section-by c.args.opened (operation_view c.args.o) _ c.code_of-n.ensures, ne_eqb _ 0 c.if-n-eq-SEC.false, lt-leb _ 3 c.if-n-le-EJC.false, lt-leb _ 7 c.if-n-le-GLB.false, ne_eqb _ 8 c.if-n-eq-EQU.false, le-leb _ 13 c.if-n-le-DTC.true)

pub returns-then-n-eq-UNKNOWN : goal.returns-then-n-eq-UNKNOWN
unfolding if
returns-then-n-eq-UNKNOWN c = rw (section-by c.args.opened (operation_view c.args.o) _ c.code_of-n.ensures, ne_eqb _ 0 c.if-n-eq-SEC.false, lt-leb _ 3 c.if-n-le-EJC.false, lt-leb _ 7 c.if-n-le-GLB.false, ne_eqb _ 8 c.if-n-eq-EQU.false, lt-leb _ 13 c.if-n-le-DTC.false, eq-eqb _ 16 c.if-n-eq-UNKNOWN.true)

pub returns-then-n-eq-OPERATES : goal.returns-then-n-eq-OPERATES
unfolding if
returns-then-n-eq-OPERATES c = rw (section-by c.args.opened (operation_view c.args.o) _ c.code_of-n.ensures, ne_eqb _ 0 c.if-n-eq-SEC.false, lt-leb _ 3 c.if-n-le-EJC.false, lt-leb _ 7 c.if-n-le-GLB.false, ne_eqb _ 8 c.if-n-eq-EQU.false, lt-leb _ 13 c.if-n-le-DTC.false, ne_eqb _ 16 c.if-n-eq-UNKNOWN.false, eq-eqb _ 17 c.if-n-eq-OPERATES.true)

pub returns : goal.returns
unfolding if
returns c = rw (section-by c.args.opened (operation_view c.args.o) _ c.code_of-n.ensures, ne_eqb _ 0 c.if-n-eq-SEC.false, lt-leb _ 3 c.if-n-le-EJC.false, lt-leb _ 7 c.if-n-le-GLB.false, ne_eqb _ 8 c.if-n-eq-EQU.false, lt-leb _ 13 c.if-n-le-DTC.false, ne_eqb _ 16 c.if-n-eq-UNKNOWN.false, ne_eqb _ 17 c.if-n-eq-OPERATES.false)
