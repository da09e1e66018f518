use Rattle.rules.specs.Operand as Rules
use native.Mathlib.Omega.{arith}
use mathlib.Core.Path.{ap}
use Rattle.rules.specs.Operand.{given}
use Rattle.rules.specs.Exec.{copies}
use Rattle.exec_core.proofs.Laws.{store-register}
use Rattle.exec_moves.proofs.lct.Goals as goal

pub fetch-requires : goal.fetch-requires
fetch-requires c = (rw c.operand-two.ensures c.requires.two, c.requires.zero)

pub returns-in_default : goal.returns-in_default
unfolding copies given
returns-in_default c = rw (← c.operand-two.ensures, ← c.fetch.ensures, c.in_default.is)

pub act-requires : goal.act-requires
act-requires c = rw c.operand-two.ensures c.requires.two

pub bounds-z-x : goal.bounds-z-x
bounds-z-x c = omega (arith, ap Rules.Operand.reg c.operand-one.ensures, c.requires.one.register)

pub returns : goal.returns
unfolding copies given
returns c = rw (← c.operand-two.ensures, ← c.fetch.ensures, c.in-Some.is, ← c.act.ensures, store-register _ _ _ _ _ 0 c.requires.one, c.index-x.ensures, ap Rules.Operand.reg c.operand-one.ensures)
