-- `snap_core::fresh::write_memory` meets its contract. The loop's invariant: the file begins with memory, its first i fresh words as 0.
use mathlib.Core.Path.{refl, ◌∙◌}
use native.Mathlib.Omega.{arith}
use Rattle.rules.proofs.Memory.{fresh_index-inside}
use Rattle.rules.specs.Start.{supplied}
use Rattle.snap_core.proofs.Freshening.{put_front, hide-next, hide-last}
use Rattle.snap_core.proofs.fresh.write_memory.Goals as goal

pub write_words-requires : goal.write_words-requires
write_words-requires c = omega (arith, c.requires.2)

pub fresh_count-i-end-requires : goal.fresh_count-i-end-requires
fresh_count-i-end-requires c = c.requires.0

pub loop-i-init : goal.loop-i-init
unfolding supplied
loop-i-init c = (c.fresh_count-i-end.ensures, refl, λ r e. e)

pub fresh_index-requires : goal.fresh_index-requires
fresh_index-requires c = (c.requires.0, omega arith)

pub overflow_mul-fresh_index : goal.overflow_mul-fresh_index
overflow_mul-fresh_index c = omega (arith, c.requires.1, c.requires.2, c.write_words.auto.file, c.fresh_index.ensures, fresh_index-inside _ c.requires.0 c.loop-i.i (omega arith))

pub write_word-requires : goal.write_word-requires
write_word-requires c = omega (arith, c.requires.1, c.requires.2, c.write_words.auto.file, c.fresh_index.ensures, fresh_index-inside _ c.requires.0 c.loop-i.i (omega arith))

pub loop-i-preserved : goal.loop-i-preserved
loop-i-preserved c = let v = c.loop-i.invariant in (v.0, c.write_word.auto.file ∙ v.1, λ r e. c.write_word.ensures ∙ hide-next _ _ _ _ c.loop-i.i _ c.requires.0 c.requires.1 (omega arith) c.fresh_index.ensures (v.2 r e))

pub shape_of-file : goal.shape_of-file
shape_of-file c = omega arith

pub returns : goal.returns
returns c = let v = c.loop-i.invariant in hide-last _ _ _ _ c.loop-i.i (omega arith) (v.2 _ (c.write_words.ensures ∙ put_front _ _))
