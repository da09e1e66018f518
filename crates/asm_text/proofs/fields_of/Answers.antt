-- `asm_text::fields_of` meets its contract: the scans one behind the other.
use Rattle.asm_text.proofs.Slices.{fields-found}
use Rattle.asm_text.proofs.fields_of.Goals as goal

pub returns : goal.returns
returns c = fields-found c.args.s.now _ c.find_byte-label_end.ensures.0 c.past_blanks-operation_start.ensures.0 c.find_byte-operation_end.ensures.0 c.past_blanks-operand_start.ensures.0 c.find_byte-field_end.ensures.0 c.find_byte-field_end.ensures.1
