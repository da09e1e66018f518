use Rattle.rules.specs.Operand as Rules
use native.Mathlib.Omega.{arith}
use mathlib.Core.Path.{sym, ap, ◌∙◌}
use Prim.Native.Nat.{◌+◌}
use Rattle.rules.specs.Operand.{given}
use Rattle.rules.specs.Exec.{combines, changes, fork}
use Rattle.exec_core.proofs.Laws.{undone, kept-zero, reads}
use lib.Dec.{ltb}
use Rattle.ops.specs.Machine.{cfp_m}
use Rattle.exec_core.specs.Views.{way_of}
use Rattle.exec_moves.proofs.aov.Goals as goal

pub fetch-requires : goal.fetch-requires
fetch-requires c = (rw c.operand-one.ensures c.requires.one, c.requires.zero)

pub returns-in_default : goal.returns-in_default
unfolding combines given
returns-in_default c = rw (← c.operand-one.ensures, ← c.fetch.ensures, c.in_default.is)

pub bounds-z-x : goal.bounds-z-x
bounds-z-x c = omega (arith, ap Rules.Operand.reg c.operand-one.ensures, c.requires.one.register)

pub act-requires : goal.act-requires
act-requires c = rw c.operand-one.ensures c.requires.one

pub fetch-requires-2 : goal.fetch-requires-2
fetch-requires-2 c = (rw c.operand-two.ensures (reads c.requires.two), kept-zero _ _ _ c.act.ensures (rw c.operand-one.ensures c.requires.one) c.requires.zero)

pub bounds-z-x-in_default-fetch : goal.bounds-z-x-in_default-fetch
bounds-z-x-in_default-fetch c = omega (arith, ap Rules.Operand.reg c.operand-one.ensures, c.requires.one.register)

pub returns-in_default-fetch : goal.returns-in_default-fetch
unfolding combines changes given
returns-in_default-fetch c = rw (undone _ _ _ c.act.ensures c.index-x.ensures, ← c.operand-one.ensures, ← c.fetch.ensures, c.in-Some.is, ← c.act.ensures, ← c.operand-two.ensures, ← c.fetch-2.ensures, c.in_default-fetch.is)

pub store-requires : goal.store-requires
store-requires c = (rw c.operand-two.ensures c.requires.two, kept-zero _ _ _ c.act.ensures (rw c.operand-one.ensures c.requires.one) c.requires.zero, omega (arith, ap Rules.Operand.reg c.operand-one.ensures, c.requires.one.register))

pub returns : goal.returns
unfolding combines changes given
returns c = c.store.ensures (way_of c.args.t.now c.args.b) (fork 3 (ltb cfp_m (c.in-Some-fetch.w + c.in-Some.v))) (sym c.overflow-on.ensures) ∙ rw (undone _ _ _ c.act.ensures c.index-x.ensures, c.add.ensures, ← c.operand-one.ensures, ← c.fetch.ensures, c.in-Some.is, ← c.act.ensures, ← c.operand-two.ensures, ← c.fetch-2.ensures, c.in-Some-fetch.is)
