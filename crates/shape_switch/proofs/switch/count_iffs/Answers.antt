-- `shape_switch::switch::count_iffs` meets its contract: each return rewrites with the tests that led there.
use Rattle.shape_core.proofs.Lists.{iffs-start, iffs-next, iffs-other, iffs-end}
use Rattle.rules.specs.Table.{size}
use Prim.Native.Nat.{◌+◌}
use native.Mathlib.Omega.{arith}
use Rattle.shape_switch.proofs.switch.count_iffs.Goals as goal

pub loop-k-init : goal.loop-k-init
loop-k-init c = (omega arith, iffs-start _ _ _)

pub returns-then-places-p-ne-IFF : goal.returns-then-places-p-ne-IFF
unfolding size
returns-then-places-p-ne-IFF c = record { all = rw (← c.args.places.now.known.count) (iffs-other c.args.places.now.table.now c.args.p c.args.places.now.n c.loop-k.k c.loop-k.invariant.1 _ (c.args.places.now.known.classes (c.args.p + c.loop-k.k) (omega arith)) c.if-places-p-ne-IFF.true); inside = omega arith }

pub loop-k-preserved : goal.loop-k-preserved
loop-k-preserved c = (omega arith, iffs-next c.args.places.now.table.now c.args.p c.args.places.now.n c.loop-k.k c.loop-k.invariant.1 _ (omega arith) (c.args.places.now.known.classes (c.args.p + c.loop-k.k) (omega arith)) c.if-places-p-ne-IFF.false)

pub returns : goal.returns
unfolding size
returns c =
    let e = iffs-end c.args.places.now.table.now c.args.p c.args.places.now.n c.loop-k.k c.loop-k.invariant.1 (omega arith) in
    record { all = rw (← c.args.places.now.known.count) (omega (arith, e)); inside = omega arith }
