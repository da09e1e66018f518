-- `snap_core::copy::read_words` meets its contract. The loop's invariant: the words before i are read, and the rest of the file's words follow.
use mathlib.Core.Path.{refl, sym, ◌∙◌}
use native.Mathlib.Omega.{arith}
use lib.ListN.{length-set}
use Rattle.snap_core.proofs.Reading.{words_in-first, read_next, read-last}
use Rattle.snap_core.proofs.copy.read_words.Goals as goal

pub loop-i-init : goal.loop-i-init
loop-i-init c = (refl, omega arith, words_in-first _ _ _)

pub overflow_mul-i : goal.overflow_mul-i
overflow_mul-i c = omega arith

pub overflow_add-at : goal.overflow_add-at
overflow_add-at c = omega arith

pub read_word-requires : goal.read_word-requires
read_word-requires c = omega arith

pub offset_bounds-ws-i : goal.offset_bounds-ws-i
offset_bounds-ws-i c = omega arith

pub bounds-ws-i : goal.bounds-ws-i
bounds-ws-i c = omega arith

pub loop-i-preserved : goal.loop-i-preserved
loop-i-preserved c = let v = c.loop-i.invariant in
    (simp length-set v.0, simp length-set (omega arith), v.2 ∙ read_next _ _ _ _ _ _ c.loop-i-test.true v.0 c.read_word.ensures)

pub shape_of-ws : goal.shape_of-ws
shape_of-ws c = omega arith

pub returns : goal.returns
returns c = let v = c.loop-i.invariant in sym (v.2 ∙ read-last _ _ _ _ _ c.loop-i-test.false v.0)
