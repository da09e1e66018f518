-- A string apart from the table; else the characters before the table, those in it and those after it.
use mathlib.Core.Path.{refl, sym, ◌∙◌}
use native.Mathlib.Omega.{arith}
use Rattle.block_translate.proofs.Parts.{in_parts}
use Rattle.block_translate.proofs.translate.Goals as goal

pub translate_apart-requires : goal.translate_apart-requires
translate_apart-requires c = (omega arith, omega arith, omega arith, c.clear.ensures c.if-clear.true)

pub returns : goal.returns
returns c = c.translate_apart-3.ensures ∙ sym (in_parts c.args.n c.min-below.result c.min-met.result c.args.from _ c.args.to c.args.m.now _ _ (omega arith) refl c.translate_apart-2.ensures c.translate_chars.ensures)
