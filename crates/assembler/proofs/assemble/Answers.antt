-- `assembler::assemble` meets its contract: the byte length first, then what `assemble_short` answers.
use Rattle.assembler.proofs.Endings.{long-answers, short-text}
use Rattle.assembler.proofs.assemble.Goals as goal

pub returns-then-cards-gt-MAX_BYTES : goal.returns-then-cards-gt-MAX_BYTES
returns-then-cards-gt-MAX_BYTES c = long-answers _ _ c.if-cards-gt-MAX_BYTES.true

pub assemble_short-requires : goal.assemble_short-requires
assemble_short-requires c = c.if-cards-gt-MAX_BYTES.false

pub returns : goal.returns
returns c = short-text _ _ _ _ c.if-cards-gt-MAX_BYTES.false c.assemble_short.ensures
