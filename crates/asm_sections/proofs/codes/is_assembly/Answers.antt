-- `asm_sections::codes::is_assembly` meets its contract: the codes are compared.
use Rattle.asm_sections.proofs.Laws.{assembly-is, code_at}
use Rattle.asm_types.specs.Views.{assembly_at, operation_view}
use Rattle.asm_sections.proofs.codes.is_assembly.Goals as goal

pub returns : goal.returns
returns c = rw (assembly-is (assembly_at c.args.code) (operation_view c.args.o), ← code_at c.args.code c.requires, c.code_of.ensures)
