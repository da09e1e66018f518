-- `state_check::passing::placed` meets its contract: each test in the order of the definition. Assumes nothing.
use Rattle.std.proofs.lemmas.Bool.{not_from_false, not_from_true}
use Prim.Native.Nat.{◌<◌}
use Rattle.rules.specs.Table.{size}
use Rattle.state_check.proofs.Judged.{placed-goes, placed-inside, placed-nowhere, placed-unheld, placed-waits}
use lib.ListN.{take}
use native.Mathlib.Omega.{arith}
use Rattle.state_check.proofs.passing.placed.Goals as goal

pub returns-then-not-arrives : goal.returns-then-not-arrives
returns-then-not-arrives c =
    let args = c.args in
    placed-nowhere args.t.now args.p (take args.k args.links.now) args.waiting c.arrives.result
    c.arrives.ensures (not_from_false _ c.if-not-arrives.true)

pub covered-requires : goal.covered-requires
covered-requires c =
    let args = c.args in
    let pre = c.requires in
    let a : args.p < size args.t.now = placed-inside args.t.now args.p (take args.k args.links.now)
    args.waiting c.arrives.result c.arrives.ensures (not_from_true _ c.if-not-arrives.false) in
    (pre.1, pre.2, pre.3, omega arith)

pub returns-then-not-covered : goal.returns-then-not-covered
returns-then-not-covered c =
    let args = c.args in
    let arrives = c.arrives in
    let if1 = c.if-not-arrives in
    placed-unheld args.t.now args.p (take args.k args.links.now) args.waiting arrives.result
    arrives.ensures (not_from_true _ if1.false) c.covered.result c.covered.ensures (not_from_false _ c.if-not-covered.true)

pub awaits-requires : goal.awaits-requires
awaits-requires c =
    let pre = c.requires in
    pre.1

pub returns-then-waiting : goal.returns-then-waiting
returns-then-waiting c =
    let args = c.args in
    let arrives = c.arrives in
    let if1 = c.if-not-arrives in
    let covered = c.covered in
    let if2 = c.if-not-covered in
    placed-waits args.t.now args.p (take args.k args.links.now) args.waiting arrives.result
    arrives.ensures (not_from_true _ if1.false) covered.result covered.ensures (not_from_true _ if2.false) c.if-waiting.true
    c.awaits.result c.awaits.ensures

pub returns : goal.returns
returns c =
    let args = c.args in
    let arrives = c.arrives in
    let if1 = c.if-not-arrives in
    let covered = c.covered in
    placed-goes args.t.now args.p (take args.k args.links.now) args.waiting arrives.result
    arrives.ensures (not_from_true _ if1.false) covered.result covered.ensures (not_from_true _ c.if-not-covered.false) c.if-waiting.false
