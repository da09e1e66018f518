-- `asm_cards::text_words` meets its contract: the length of the text, by where it stands.
use Rattle.asm_cards.proofs.Counting.{text-words-le, words-between}
use native.Mathlib.Omega.{arith}
use mathlib.Core.Path.{◌∙◌}
use Rattle.asm_cards.proofs.text_words.Goals as goal

pub returns : goal.returns
returns c =
    let s = c.args.s.now in
    let q = c.quoted-q.ensures in
    let e = c.words_for.ensures ∙ words-between s c.quoted-q.result.from c.quoted-q.result.to q.from_le q.to_le q.text in
    (e, omega (arith, text-words-le s, e))
