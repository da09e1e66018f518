-- `asm_operations::formats::has_text` meets its contract: by the class.
use Rattle.asm_operations.proofs.Laws.{text-by}
use Rattle.asm_types.specs.Views.{operation_view}
use Rattle.base.specs.Test.{◌or◌}
use borrow.Author.Tests.{eq-eqb, ne_eqb}
use Rattle.asm_operations.proofs.formats.has_text.Goals as goal

pub returns-then-k-eq-ERR : goal.returns-then-k-eq-ERR
unfolding ◌or◌
returns-then-k-eq-ERR c = rw (text-by (operation_view c.args.o) _ c.class_of-k.ensures, eq-eqb _ 14 c.if-k-eq-ERR.true)

pub returns : goal.returns
unfolding ◌or◌
returns c = rw (text-by (operation_view c.args.o) _ c.class_of-k.ensures, ne_eqb _ 14 c.if-k-eq-ERR.false)
