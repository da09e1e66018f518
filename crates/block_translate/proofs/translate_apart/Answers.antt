-- A string shorter than a word; else the characters up to the next word, the words, and the characters left.
use Prim.Native.Nat.{◌+◌, ◌-◌, ◌*◌, ◌/◌}
use mathlib.Core.Path.{sym, ◌∙◌}
use native.Mathlib.Omega.{arith}
use Rattle.block_translate.proofs.Parts.{in_parts}
use Rattle.block_translate.proofs.translate_apart.Goals as goal

pub translate_words-requires : goal.translate_words-requires
translate_words-requires c = (omega arith, omega arith, omega arith, λ z e. omega (arith, c.requires.3 (omega (arith, z)) (omega (arith, e)), e))

pub returns : goal.returns
returns c =
    let n = c.args.n in
    let from = c.args.from in
    let head = c.to_word-head.result in
    let start = (from + head) / 4 in
    c.translate_chars-3.ensures
    ∙ sym (in_parts n head (4 * ((n - head) / 4)) from (4 * start) c.args.to c.args.m.now _ _ (omega arith) (omega arith) c.translate_chars-2.ensures (rw (c.index.ensures, c.index-2.ensures) at c.translate_words.ensures))
