-- The invariant: what is left, copied from the start to the distance, makes what is copied from the start. The measure: the characters left.
use mathlib.Core.Path.{refl, sym, ◌∙◌}
use native.Mathlib.Omega.{arith}
use Rattle.block_copy.proofs.Four.{same-counts}
use Rattle.block_copy.proofs.Repeat.{doubled}
use Rattle.block_copy.proofs.copy_above.Goals as goal

pub loop-distance-init : goal.loop-distance-init
loop-distance-init c = (same-counts c.args.m.now refl refl (omega arith), omega arith, omega arith, refl)

pub overflow_add-from : goal.overflow_add-from
overflow_add-from c = omega arith

pub copy_apart-requires : goal.copy_apart-requires
copy_apart-requires c = (omega arith, omega arith, omega arith, λ h. omega arith)

pub overflow_sub-left : goal.overflow_sub-left
overflow_sub-left c = omega arith

pub overflow_add-distance : goal.overflow_add-distance
overflow_add-distance c = omega arith

pub loop-distance-smaller : goal.loop-distance-smaller
loop-distance-smaller c = omega arith

pub loop-distance-preserved : goal.loop-distance-preserved
loop-distance-preserved c =
    let l = c.loop-distance in
    let k = c.copy_apart in
    (l.invariant.0 ∙ doubled l.left l.distance c.args.from l.m _ l.invariant.2 (omega arith) (omega arith) k.ensures k.auto.m, omega arith, omega arith, k.auto.m ∙ l.invariant.3)

pub overflow_add-from-2 : goal.overflow_add-from-2
overflow_add-from-2 c = omega arith

pub copy_apart-requires-2 : goal.copy_apart-requires-2
copy_apart-requires-2 c = (omega arith, omega arith, omega arith, λ h. omega arith)

pub shape_of-m : goal.shape_of-m
shape_of-m c = c.copy_apart-2.auto.m ∙ c.loop-distance.invariant.3

pub returns : goal.returns
returns c = c.copy_apart-2.ensures ∙ sym c.loop-distance.invariant.0
