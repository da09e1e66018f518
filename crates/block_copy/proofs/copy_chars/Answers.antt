-- The invariant: what is copied from here is what is copied from the start.
use mathlib.Core.Path.{refl, sym, ◌∙◌}
use native.Mathlib.Omega.{arith}
use Rattle.block_chars.proofs.Laws.{length-with_char}
use Rattle.block_copy.proofs.Four.{same-counts}
use Rattle.block_copy.proofs.Whole.{copied-char, copied-chars-none}
use Rattle.block_copy.proofs.copy_chars.Goals as goal

pub loop-i-init : goal.loop-i-init
loop-i-init c = (same-counts c.args.m.now (omega arith) (omega arith) (omega arith), refl)

pub char_in-requires : goal.char_in-requires
char_in-requires c = omega arith

pub put_char-requires : goal.put_char-requires
put_char-requires c = (omega arith, c.char_in.ensures.1)

pub loop-i-preserved : goal.loop-i-preserved
loop-i-preserved c =
    let i = c.loop-i.invariant in
    (i.0 ∙ copied-char c.args.n c.loop-i.i c.args.from c.args.to c.loop-i.m (omega arith) ∙ rw (c.put_char.ensures, c.char_in.ensures.0), rw (c.put_char.ensures, length-with_char) i.1)

pub returns : goal.returns
returns c = sym (copied-chars-none _ _ _ _ (omega arith)) ∙ sym c.loop-i.invariant.0
