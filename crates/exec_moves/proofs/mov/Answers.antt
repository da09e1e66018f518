use Rattle.rules.specs.Operand as Rules
use native.Mathlib.Omega.{arith}
use mathlib.Core.Path.{refl, ap, ◌∙◌}
use Prim.Native.Nat.{◌+◌}
use Rattle.rules.specs.Operand.{given}
use Rattle.rules.specs.Exec.{copies}
use Rattle.exec_core.proofs.Laws.{undone, kept-zero}
use Rattle.exec_moves.proofs.mov.Goals as goal

pub fetch-requires : goal.fetch-requires
fetch-requires c = (rw c.operand-one.ensures c.requires.one, c.requires.zero)

pub returns-in_default : goal.returns-in_default
unfolding copies given
returns-in_default c = rw (← c.operand-one.ensures, ← c.fetch.ensures, c.in_default.is)

pub bounds-z-x : goal.bounds-z-x
bounds-z-x c = omega (arith, ap Rules.Operand.reg c.operand-one.ensures, c.requires.one.register)

pub act-requires : goal.act-requires
act-requires c = rw c.operand-one.ensures c.requires.one

pub store-requires : goal.store-requires
store-requires c = (rw c.operand-two.ensures c.requires.two, kept-zero _ _ _ c.act.ensures (rw c.operand-one.ensures c.requires.one) c.requires.zero, omega (arith, ap Rules.Operand.reg c.operand-one.ensures, c.requires.one.register))

pub returns : goal.returns
unfolding copies given
returns c = c.store.ensures (λ j. c.args.b + 72) 0 refl ∙ rw (undone _ _ _ c.act.ensures c.index-x.ensures, ← c.operand-one.ensures, ← c.fetch.ensures, c.in-Some.is, ← c.act.ensures, ← c.operand-two.ensures)
