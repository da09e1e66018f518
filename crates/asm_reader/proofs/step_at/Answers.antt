-- `asm_reader::step_at` meets its contract: the scan finds the end of the first of the lines left; past the text none is left.
use Rattle.asm_reader.proofs.Laws.{step_line, step-out}
use Rattle.asm_reader.proofs.step_at.Goals as goal

pub returns-then-at-text : goal.returns-then-at-text
returns-then-at-text c = step_line _ _ _ c.if-at-text.true c.find_byte-end.ensures.0

pub returns-else-at-text : goal.returns-else-at-text
returns-else-at-text c = step-out _ _ c.if-at-text.false
