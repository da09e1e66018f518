-- The invariant: a comparison may leave out the words passed. The measure: the words left.
use Prim.Native.Nat.{◌+◌, ◌*◌}
use native.Mathlib.Omega.{arith}
use Rattle.block_order.proofs.Order.{skips-none, skips-more, four-words}
use Rattle.block_order.proofs.same_words.Goals as goal

pub loop-i-init : goal.loop-i-init
loop-i-init c = (omega arith, skips-none _ _ _)

pub overflow_add-f : goal.overflow_add-f
overflow_add-f c = omega arith

pub offset_bounds-m-f : goal.offset_bounds-m-f
offset_bounds-m-f c = omega arith

pub bounds-m-f : goal.bounds-m-f
bounds-m-f c = omega arith

pub overflow_add-g : goal.overflow_add-g
overflow_add-g c = omega arith

pub offset_bounds-m-g : goal.offset_bounds-m-g
offset_bounds-m-g c = omega arith

pub bounds-m-g : goal.bounds-m-g
bounds-m-g c = omega arith

pub returns-then-m-f : goal.returns-then-m-f
returns-then-m-f c = c.loop-i.invariant

pub overflow_add-i : goal.overflow_add-i
overflow_add-i c = omega arith

pub loop-i-smaller : goal.loop-i-smaller
loop-i-smaller c = omega arith

pub loop-i-preserved : goal.loop-i-preserved
loop-i-preserved c = (omega arith, skips-more c.loop-i.i (4 * c.args.f) (4 * c.args.g) c.args.m.now c.loop-i.invariant.1 (four-words c.args.m.now (c.args.f + c.loop-i.i) (c.args.g + c.loop-i.i) (4 * c.args.f + 4 * c.loop-i.i) (4 * c.args.g + 4 * c.loop-i.i) (omega arith) (omega arith) c.if-m-f.false))

pub returns : goal.returns
returns c = c.loop-i.invariant
