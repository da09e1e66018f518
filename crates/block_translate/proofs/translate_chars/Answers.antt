-- The invariant: what is translated from here is what is translated from the start.
use Prim.Native.Nat.{◌+◌}
use mathlib.Core.Path.{refl, sym, ◌∙◌}
use native.Mathlib.Omega.{arith}
use Rattle.block_chars.proofs.Laws.{length-with_char}
use Rattle.block_table.proofs.Table.{same-counts, translated-none}
use Rattle.block_translate.proofs.Parts.{translated-char}
use Rattle.block_translate.proofs.translate_chars.Goals as goal

pub loop-f-init : goal.loop-f-init
loop-f-init c = (same-counts c.args.to c.args.m.now (omega arith) refl, refl)

pub char_in-ch-requires : goal.char_in-ch-requires
char_in-ch-requires c = omega arith

pub char_in-requires : goal.char_in-requires
char_in-requires c = omega arith

pub put_char-requires : goal.put_char-requires
put_char-requires c = (omega arith, c.char_in.ensures.1)

pub loop-f-preserved : goal.loop-f-preserved
loop-f-preserved c =
    let i = c.loop-f.invariant in
    (i.0 ∙ translated-char (c.args.from + c.args.n) c.loop-f.f c.args.to c.loop-f.m (omega arith) ∙ rw (c.put_char.ensures, c.char_in.ensures.0, c.char_in-ch.ensures.0), rw (c.put_char.ensures, length-with_char) i.1)

pub returns : goal.returns
returns c = sym (translated-none _ _ _ _ (omega arith)) ∙ sym c.loop-f.invariant.0
