-- `asm_reader::behind_at` meets its contract: past the byte that ends the line, where there is one.
use Rattle.asm_reader.proofs.Laws.{behind-last, behind_more, behind-out}
use Rattle.asm_reader.proofs.behind_at.Goals as goal

pub returns-then-text-at : goal.returns-then-text-at
returns-then-text-at c = behind-out _ _ c.if-text-at.true

pub returns-then-end-text : goal.returns-then-end-text
returns-then-end-text c = behind_more _ _ _ c.if-text-at.false c.find_byte-end.ensures.0 c.if-end-text.true

pub returns-else-end-text : goal.returns-else-end-text
returns-else-end-text c = behind-last _ _ _ c.if-text-at.false c.find_byte-end.ensures.0 c.if-end-text.false
