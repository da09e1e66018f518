-- The invariant: a comparison may leave out the words passed. The measure: the words left.
use Prim.Native.Nat.{◌+◌, ◌*◌}
use mathlib.Core.Path.{sym, ◌∙◌}
use native.Mathlib.Omega.{arith}
use Rattle.block_order.proofs.Order.{skips-none, skips-more, four-merged}
use Rattle.block_order.proofs.same_merged.Goals as goal

pub loop-i-init : goal.loop-i-init
loop-i-init c = (omega arith, skips-none _ _ _)

pub overflow_add-f : goal.overflow_add-f
overflow_add-f c = omega arith

pub offset_bounds-m-f : goal.offset_bounds-m-f
offset_bounds-m-f c = omega arith

pub bounds-m-f : goal.bounds-m-f
bounds-m-f c = omega arith

pub overflow_add-f-in-loop-i : goal.overflow_add-f-in-loop-i
overflow_add-f-in-loop-i c = omega arith

pub overflow_add-f-in-loop-i-2 : goal.overflow_add-f-in-loop-i-2
overflow_add-f-in-loop-i-2 c = omega arith

pub offset_bounds-m-f-in-loop-i : goal.offset_bounds-m-f-in-loop-i
offset_bounds-m-f-in-loop-i c = omega arith

pub bounds-m-f-in-loop-i : goal.bounds-m-f-in-loop-i
bounds-m-f-in-loop-i c = omega arith

pub overflow_add-g : goal.overflow_add-g
overflow_add-g c = omega arith

pub offset_bounds-m-g : goal.offset_bounds-m-g
offset_bounds-m-g c = omega arith

pub bounds-m-g : goal.bounds-m-g
bounds-m-g c = omega arith

pub returns-then-merged-m : goal.returns-then-merged-m
returns-then-merged-m c = c.loop-i.invariant

pub overflow_add-i : goal.overflow_add-i
overflow_add-i c = omega arith

pub loop-i-smaller : goal.loop-i-smaller
loop-i-smaller c = omega arith

pub loop-i-preserved : goal.loop-i-preserved
loop-i-preserved c = (omega arith, skips-more c.loop-i.i (4 * c.args.f + c.args.r) (4 * c.args.g) c.args.m.now c.loop-i.invariant.1 (four-merged c.args.m.now (c.args.f + c.loop-i.i) (c.args.g + c.loop-i.i) c.args.r (4 * c.args.f + c.args.r + 4 * c.loop-i.i) (4 * c.args.g + 4 * c.loop-i.i) c.requires.2 c.requires.3 (omega arith) (omega arith) (c.shared_slice_known-1.given (c.args.f + c.loop-i.i)).fits (sym c.merged.ensures ∙ c.if-merged-m.false)))

pub returns : goal.returns
returns c = c.loop-i.invariant
