-- `asm_faults::lines::is_text_empty` meets its contract: the text ends where it begins.
use Rattle.asm_faults.proofs.Parts.{no_text}
use Rattle.asm_faults.proofs.lines.is_text_empty.Goals as goal

pub returns : goal.returns
returns c = no_text c.args.s.now _ c.quoted-q.ensures
