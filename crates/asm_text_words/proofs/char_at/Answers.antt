-- `asm_text_words::char_at` meets its contract: past the end a list has 0.
use lib.ListN.{get_or-eq_default}
use mathlib.Core.Path.{sym}
use Rattle.asm_text_words.proofs.char_at.Goals as goal

pub returns : goal.returns
returns c = sym (get_or-eq_default c.args.t.now 0 c.if-i-t.false)
