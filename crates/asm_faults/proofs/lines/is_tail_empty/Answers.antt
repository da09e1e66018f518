-- `asm_faults::lines::is_tail_empty` meets its contract: the operand field begins at the end.
use Rattle.asm_faults.proofs.Parts.{no-tail}
use Rattle.asm_faults.proofs.lines.is_tail_empty.Goals as goal

pub returns : goal.returns
returns c = no-tail c.args.s.now _ c.fields_of-f.ensures
