-- The invariant: what is compared from here is what is compared from the start, and what is left lies in memory. The measure: the characters left.
use mathlib.Core.Path.{◌≡◌, refl, sym, ◌∙◌}
use native.Mathlib.Omega.{arith}
use Rattle.block_order.proofs.Laws.{compared-equal, compared-below, compared-above, compared-none}
use Rattle.block_order.proofs.compare_chars.Goals as goal

pub loop-left-init : goal.loop-left-init
loop-left-init c = (refl, c.requires.0, c.requires.1)

pub char_in-v-requires : goal.char_in-v-requires
char_in-v-requires c = omega arith

pub char_in-w-requires : goal.char_in-w-requires
char_in-w-requires c = omega arith

pub returns-then-v-w : goal.returns-then-v-w
returns-then-v-w c = (sym (c.loop-left.invariant.0 ∙ compared-below _ _ _ _ c.loop-left-test.true (rw (c.char_in-v.ensures.0, c.char_in-w.ensures.0) at c.if-v-w.true)), omega arith)

pub returns-then-w-v : goal.returns-then-w-v
returns-then-w-v c = (sym (c.loop-left.invariant.0 ∙ compared-above _ _ _ _ c.loop-left-test.true (rw (c.char_in-v.ensures.0, c.char_in-w.ensures.0) at c.if-w-v.true)), omega arith)

pub overflow_add-f : goal.overflow_add-f
overflow_add-f c = omega arith

pub overflow_add-g : goal.overflow_add-g
overflow_add-g c = omega arith

pub overflow_sub-left : goal.overflow_sub-left
overflow_sub-left c = omega arith

pub loop-left-smaller : goal.loop-left-smaller
loop-left-smaller c = omega arith

pub loop-left-preserved : goal.loop-left-preserved
loop-left-preserved c =
    let e : c.char_in-v.result ≡ c.char_in-w.result = omega (arith, c.if-v-w.false, c.if-w-v.false) in
    (c.loop-left.invariant.0 ∙ compared-equal _ _ _ _ c.loop-left-test.true (sym c.char_in-v.ensures.0 ∙ e ∙ c.char_in-w.ensures.0), omega arith, omega arith)

pub returns : goal.returns
returns c = (sym (c.loop-left.invariant.0 ∙ compared-none _ _ _ _ c.loop-left-test.false), omega arith)
