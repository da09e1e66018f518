-- `asm_draft::texts::put_real` meets its contract: the two words of the field's number, one behind the other.
use Rattle.asm_text.proofs.Slices.{field-part}
use Rattle.asm_draft.proofs.TextWords.{two-words}
use Rattle.asm_draft.proofs.texts.put_real.Goals as goal

pub returns : goal.returns
returns c =
    two-words _ _ _ c.words_of-ws.ensures
    (field-part c.args.s.now _ c.fields_of-f.ensures)
    c.put-second.ensures c.put.ensures
