use native.Mathlib.Omega.{arith}
use Rattle.ops.specs.Class.{BSW}
use Rattle.base.proofs.Bool.{passed}
use Rattle.exec_core.specs.Entry.{readable, in_register, going}
use Rattle.exec_calls.proofs.Places.{class-at}
use Rattle.exec_control.proofs.Jumps.{entry-bare, register-small}
use Rattle.exec_control.proofs.Switched.{walk_start, walk-long, walk-hit, walk-next, walk-missed, bsw-hit, bsw-none, bsw-default}
use Rattle.exec_control.proofs.Takes.{bsw-takes}
use Rattle.exec_control.proofs.bsw.Goals as goal

pub offset_bounds-z-index : goal.offset_bounds-z-index
offset_bounds-z-index c = omega (arith, c.index.ensures, register-small c.args.t.now c.args.b (entry-bare c.requires in_register readable going bsw-takes).one)

pub bounds-z-index : goal.bounds-z-index
bounds-z-index c = omega (arith, c.index.ensures, register-small c.args.t.now c.args.b (entry-bare c.requires in_register readable going bsw-takes).one)

pub loop-i-init : goal.loop-i-init
loop-i-init c = let e = class-at BSW passed c.requires in
    let w = walk_start _ _ c.requires.checked e _ _ c.requires.starts in
    let l = walk-long _ _ c.requires.checked e _ _ w in
    (w, l.0, l.1)

pub returns-then-t-i : goal.returns-then-t-i
returns-then-t-i c = bsw-hit c.requires _ _ c.index.ensures _ (walk-hit _ _ c.requires.checked (class-at BSW passed c.requires) _ _ c.loop-i.invariant.0 c.loop-i-test.true c.if-t-i.true) _ c.to_place.ensures

pub loop-i-preserved : goal.loop-i-preserved
loop-i-preserved c = let e = class-at BSW passed c.requires in
    let w = walk-next _ _ c.requires.checked e _ _ c.loop-i.invariant.0 c.loop-i-test.true c.if-t-i.false in
    let l = walk-long _ _ c.requires.checked e _ _ w in
    (w, l.0, l.1)

pub returns-then-third-eq0 : goal.returns-then-third-eq0
returns-then-third-eq0 c = bsw-none c.requires _ _ c.index.ensures (walk-missed _ _ c.requires.checked (class-at BSW passed c.requires) _ _ c.loop-i.invariant.0 c.loop-i-test.false) c.if-third-eq0.true

pub to_third-requires : goal.to_third-requires
to_third-requires c = (c.requires.inside, omega (arith, c.if-third-eq0.false))

pub returns : goal.returns
returns c = bsw-default c.requires _ _ c.index.ensures (walk-missed _ _ c.requires.checked (class-at BSW passed c.requires) _ _ c.loop-i.invariant.0 c.loop-i-test.false) c.if-third-eq0.false _ c.to_third.ensures
