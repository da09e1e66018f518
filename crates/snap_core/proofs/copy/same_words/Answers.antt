-- `snap_core::copy::same_words` meets its contract. The loop's invariant: the words are the same if those from i on are.
use mathlib.Core.Path.{refl, sym, ◌∙◌}
use native.Mathlib.Omega.{arith}
use Rattle.snap_core.proofs.Reading.{same_first, same_next, same-other, same-last}
use Rattle.snap_core.proofs.copy.same_words.Goals as goal

pub loop-i-init : goal.loop-i-init
loop-i-init c = (omega arith, same_first _ _ _ _)

pub overflow_mul-i : goal.overflow_mul-i
overflow_mul-i c = omega arith

pub overflow_add-at : goal.overflow_add-at
overflow_add-at c = omega arith

pub read_word-requires : goal.read_word-requires
read_word-requires c = omega arith

pub offset_bounds-ws-i : goal.offset_bounds-ws-i
offset_bounds-ws-i c = omega arith

pub bounds-ws-i : goal.bounds-ws-i
bounds-ws-i c = omega arith

pub returns-then-read_word-w : goal.returns-then-read_word-w
returns-then-read_word-w c = let v = c.loop-i.invariant in sym (v.1 ∙ same-other _ _ _ _ _ c.loop-i-test.true refl (rw c.read_word.ensures at c.if-read_word-w.true))

pub loop-i-preserved : goal.loop-i-preserved
loop-i-preserved c = let v = c.loop-i.invariant in
    (omega arith, v.1 ∙ same_next _ _ _ _ _ c.loop-i-test.true refl (rw c.read_word.ensures at c.if-read_word-w.false))

pub returns : goal.returns
returns c = let v = c.loop-i.invariant in sym (v.1 ∙ same-last _ _ _ _ _ c.loop-i-test.false refl)
