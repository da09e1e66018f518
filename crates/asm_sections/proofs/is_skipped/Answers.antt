-- `asm_sections::is_skipped` meets its contract: the three codes.
use Rattle.asm_sections.proofs.Laws.{skipped-by}
use Rattle.asm_types.specs.Views.{operation_view}
use Rattle.base.specs.Test.{◌or◌}
use borrow.Author.Tests.{eq-eqb, ne_eqb}
use Rattle.asm_sections.proofs.is_skipped.Goals as goal

pub returns-then-n-eq-TTL : goal.returns-then-n-eq-TTL
unfolding ◌or◌
returns-then-n-eq-TTL c = rw (skipped-by (operation_view c.args.o) _ c.code_of-n.ensures, eq-eqb _ 2 c.if-n-eq-TTL.true)

pub returns-then-n-eq-EJC : goal.returns-then-n-eq-EJC
unfolding ◌or◌
returns-then-n-eq-EJC c = rw (skipped-by (operation_view c.args.o) _ c.code_of-n.ensures, ne_eqb _ 2 c.if-n-eq-TTL.false, eq-eqb _ 3 c.if-n-eq-EJC.true)

pub returns : goal.returns
unfolding ◌or◌
returns c = rw (skipped-by (operation_view c.args.o) _ c.code_of-n.ensures, ne_eqb _ 2 c.if-n-eq-TTL.false, ne_eqb _ 3 c.if-n-eq-EJC.false)
