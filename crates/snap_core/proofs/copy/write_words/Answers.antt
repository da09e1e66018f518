-- `snap_core::copy::write_words` meets its contract. The loop's invariant: the words from i on, put into the buffer, are all that is left.
use mathlib.Core.Path.{refl, sym, ◌∙◌}
use native.Mathlib.Omega.{arith}
use Rattle.snap_core.proofs.Puts.{put_first, put_next, put_last}
use Rattle.snap_core.proofs.copy.write_words.Goals as goal

pub loop-i-init : goal.loop-i-init
loop-i-init c = (refl, omega arith, sym (put_first _ _ _))

pub overflow_mul-i : goal.overflow_mul-i
overflow_mul-i c = omega arith

pub overflow_add-at : goal.overflow_add-at
overflow_add-at c = omega arith

pub offset_bounds-ws-i : goal.offset_bounds-ws-i
offset_bounds-ws-i c = omega arith

pub bounds-ws-i : goal.bounds-ws-i
bounds-ws-i c = omega arith

pub write_word-requires : goal.write_word-requires
write_word-requires c = omega arith

pub loop-i-preserved : goal.loop-i-preserved
loop-i-preserved c = let v = c.loop-i.invariant in
    (c.write_word.auto.file ∙ v.0, omega arith, v.2 ∙ put_next _ _ _ _ (omega arith) (omega arith) ∙ rw c.write_word.ensures)

pub shape_of-file : goal.shape_of-file
shape_of-file c = omega arith

pub returns : goal.returns
returns c = let v = c.loop-i.invariant in sym (v.2 ∙ put_last _ _ _ _ (omega arith))
