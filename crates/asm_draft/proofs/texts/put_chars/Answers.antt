-- `asm_draft::texts::put_chars` meets its contract: each turn stores the word of four characters.
use Rattle.asm_draft.proofs.TextWords.{spelling-done, spelling-more, spelling-room}
use Rattle.asm_draft.proofs.Storing.{begun}
use native.Mathlib.Omega.{arith}
use Rattle.asm_draft.proofs.texts.put_chars.Goals as goal

pub loop-i-init : goal.loop-i-init
loop-i-init c = record { i_le = omega arith; enough = c.requires; so_far = begun _ _ _ }

pub text_word-requires : goal.text_word-requires
text_word-requires c = c.loop-i-test.true

pub put-w-requires : goal.put-w-requires
put-w-requires c = spelling-room _ _ _ _ _ _ c.loop-i.invariant c.loop-i-test.true

pub loop-i-preserved : goal.loop-i-preserved
loop-i-preserved c = spelling-more _ _ _ _ _ _ c.loop-i.invariant c.loop-i-test.true _ _ _ c.text_word.ensures c.put-w.ensures

pub shape_of-draft : goal.shape_of-draft
shape_of-draft c = c.loop-i.invariant.so_far.same

pub returns : goal.returns
returns c = spelling-done _ _ _ _ _ _ c.loop-i.invariant c.loop-i-test.false
