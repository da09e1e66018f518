-- `asm_operations::labels::is_labelless` meets its contract: each return rewrites with the tests that led there.
use Rattle.asm_operations.proofs.Laws.{labelless-by}
use Rattle.asm_types.specs.Views.{operation_view}
use Rattle.base.specs.Test.{◌or◌}
use borrow.Author.Tests.{eq-eqb, ne_eqb}
use Rattle.asm_operations.proofs.labels.is_labelless.Goals as goal

pub returns-then-k-eq-ENP : goal.returns-then-k-eq-ENP
unfolding ◌or◌
returns-then-k-eq-ENP c = rw (labelless-by (operation_view c.args.o) _ c.class_of-k.ensures, eq-eqb _ 18 c.if-k-eq-ENP.true)

pub returns-then-k-eq-PPM : goal.returns-then-k-eq-PPM
unfolding ◌or◌
returns-then-k-eq-PPM c = rw (labelless-by (operation_view c.args.o) _ c.class_of-k.ensures, ne_eqb _ 18 c.if-k-eq-ENP.false, eq-eqb _ 13 c.if-k-eq-PPM.true)

pub returns-then-k-eq-ERR : goal.returns-then-k-eq-ERR
unfolding ◌or◌
returns-then-k-eq-ERR c = rw (labelless-by (operation_view c.args.o) _ c.class_of-k.ensures, ne_eqb _ 18 c.if-k-eq-ENP.false, ne_eqb _ 13 c.if-k-eq-PPM.false, eq-eqb _ 14 c.if-k-eq-ERR.true)

pub returns-then-k-eq-IFF : goal.returns-then-k-eq-IFF
unfolding ◌or◌
returns-then-k-eq-IFF c = rw (labelless-by (operation_view c.args.o) _ c.class_of-k.ensures, ne_eqb _ 18 c.if-k-eq-ENP.false, ne_eqb _ 13 c.if-k-eq-PPM.false, ne_eqb _ 14 c.if-k-eq-ERR.false, eq-eqb _ 15 c.if-k-eq-IFF.true)

pub returns : goal.returns
unfolding ◌or◌
returns c = rw (labelless-by (operation_view c.args.o) _ c.class_of-k.ensures, ne_eqb _ 18 c.if-k-eq-ENP.false, ne_eqb _ 13 c.if-k-eq-PPM.false, ne_eqb _ 14 c.if-k-eq-ERR.false, ne_eqb _ 15 c.if-k-eq-IFF.false)
