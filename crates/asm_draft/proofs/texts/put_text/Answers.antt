-- `asm_draft::texts::put_text` meets its contract: the characters of the text, by where it stands.
use Rattle.asm_draft.proofs.TextWords.{of-text}
use Rattle.asm_draft.proofs.texts.put_text.Goals as goal

pub put_chars-requires : goal.put_chars-requires
put_chars-requires c = rw c.quoted-q.ensures.text c.requires

pub returns : goal.returns
returns c = of-text _ _ c.quoted-q.ensures.text c.put_chars.ensures
