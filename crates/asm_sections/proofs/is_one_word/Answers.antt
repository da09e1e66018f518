-- `asm_sections::is_one_word` meets its contract: the three codes.
use Rattle.asm_sections.proofs.Laws.{one-word-by}
use Rattle.asm_types.specs.Views.{operation_view}
use Rattle.base.specs.Test.{◌or◌}
use borrow.Author.Tests.{eq-eqb, ne_eqb}
use Rattle.asm_sections.proofs.is_one_word.Goals as goal

pub returns-then-n-eq-DAC : goal.returns-then-n-eq-DAC
unfolding ◌or◌
returns-then-n-eq-DAC c = rw (one-word-by (operation_view c.args.o) _ c.code_of-n.ensures, eq-eqb _ 9 c.if-n-eq-DAC.true)

pub returns-then-n-eq-DIC : goal.returns-then-n-eq-DIC
unfolding ◌or◌
returns-then-n-eq-DIC c = rw (one-word-by (operation_view c.args.o) _ c.code_of-n.ensures, ne_eqb _ 9 c.if-n-eq-DAC.false, eq-eqb _ 10 c.if-n-eq-DIC.true)

pub returns : goal.returns
unfolding ◌or◌
returns c = rw (one-word-by (operation_view c.args.o) _ c.code_of-n.ensures, ne_eqb _ 9 c.if-n-eq-DAC.false, ne_eqb _ 10 c.if-n-eq-DIC.false)
