-- `state_check::passing::arrives` meets its contract, by the number of the operation. Assumes nothing.
use Rattle.bodies.proofs.Places.{arrives-marker, arrives-other, arrives-past, Unmarked, unmarked}
use Rattle.ops.specs.Class.{ENP, ERR, ESW, IFF, PPM, PRC}
use native.Mathlib.Omega.{arith}
use Prim.Native.Nat.{◌+◌, ◌*◌}
use lib.ListN.{get_or}
use Rattle.state_check.proofs.passing.arrives.Goals as goal

pub returns-then-n-p : goal.returns-then-n-p
returns-then-n-p c = arrives-past c.args.t.now c.args.p (omega arith)

pub returns-in-104 : goal.returns-in-104
returns-in-104 c =
    let args = c.args in
    arrives-marker IFF args.t.now args.p (omega arith) c.in-104.is

pub returns-in-105 : goal.returns-in-105
returns-in-105 c =
    let args = c.args in
    arrives-marker ESW args.t.now args.p (omega arith) c.in-105.is

pub returns-in-110 : goal.returns-in-110
returns-in-110 c =
    let args = c.args in
    arrives-marker PPM args.t.now args.p (omega arith) c.in-110.is

pub returns-in-111 : goal.returns-in-111
returns-in-111 c =
    let args = c.args in
    arrives-marker PRC args.t.now args.p (omega arith) c.in-111.is

pub returns-in-113 : goal.returns-in-113
returns-in-113 c =
    let args = c.args in
    arrives-marker ENP args.t.now args.p (omega arith) c.in-113.is

pub returns-in-114 : goal.returns-in-114
returns-in-114 c =
    let args = c.args in
    arrives-marker ERR args.t.now args.p (omega arith) c.in-114.is

pub returns-in_default : goal.returns-in_default
returns-in_default c =
    let args = c.args in
    let pre = c.requires in
    let r = c.in_default.in_default-own.rest in
    let u : Unmarked (get_or args.t.now (8 + 8 * args.p) 0) = unmarked _ r.0.0.0.0.0.1 r.0.0.0.0.1
    r.0.0.0.1 r.0.0.1 r.0.1 r.1 in
    arrives-other args.t.now pre.0 args.p (omega arith) u
