-- `asm_sections::is_divider` meets its contract: the two codes.
use Rattle.asm_sections.proofs.Laws.{divider-by}
use Rattle.asm_types.specs.Views.{operation_view}
use Rattle.base.specs.Test.{◌or◌}
use borrow.Author.Tests.{eq-eqb, ne_eqb}
use Rattle.asm_sections.proofs.is_divider.Goals as goal

pub returns-then-n-eq-SEC : goal.returns-then-n-eq-SEC
unfolding ◌or◌
returns-then-n-eq-SEC c = rw (divider-by (operation_view c.args.o) _ c.code_of-n.ensures, eq-eqb _ 0 c.if-n-eq-SEC.true)

pub returns : goal.returns
unfolding ◌or◌
returns c = rw (divider-by (operation_view c.args.o) _ c.code_of-n.ensures, ne_eqb _ 0 c.if-n-eq-SEC.false)
