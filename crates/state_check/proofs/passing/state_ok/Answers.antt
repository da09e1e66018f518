-- `state_check::passing::state_ok` meets its contract. Assumes nothing.
use Rattle.rules.specs.Table.{size}
use Rattle.bodies.proofs.Places.{entries-of, size-most}
use mathlib.Core.Path.{refl}
use native.Mathlib.Omega.{arith}
use Rattle.state_check.proofs.passing.state_ok.Goals as goal

pub bounds-t-0 : goal.bounds-t-0
bounds-t-0 c =
    let args = c.args in
    let pre = c.requires in
    let e = entries-of args.t.now _ (pre) refl in omega arith

pub bodies-requires : goal.bodies-requires
unfolding size
bodies-requires c =
    let args = c.args in
    let pre = c.requires in
    let e = entries-of args.t.now c.index.result (pre) c.index.ensures in
    (e, omega (arith, size-most args.t.now pre, c.index.ensures))

pub state_ok_with-requires : goal.state_ok_with-requires
unfolding size
state_ok_with-requires c =
    let pre = c.requires in
    let index = c.index in
    let bodies = c.bodies in
    (pre, rw (← index.ensures) bodies.ensures)
