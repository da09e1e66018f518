use Rattle.rules.specs.Operand as Rules
use native.Mathlib.Omega.{arith}
use mathlib.Core.Path.{ap}
use Rattle.rules.specs.Operand.{given}
use Rattle.rules.specs.Exec.{combines, changes}
use Rattle.exec_core.proofs.Laws.{fetch-register, store-register}
use Rattle.exec_chars.proofs.Laws.{plus-plus}
use Rattle.exec_chars.proofs.point.Goals as goal

pub fetch-requires : goal.fetch-requires
fetch-requires c = (rw c.operand-two.ensures c.requires.two, c.requires.zero)

pub returns-in_default : goal.returns-in_default
unfolding combines given
returns-in_default c = λ k. rw (← c.operand-two.ensures, ← c.fetch.ensures, c.in_default.is)

pub act-requires : goal.act-requires
act-requires c = rw c.operand-two.ensures c.requires.two

pub bounds-z-x : goal.bounds-z-x
bounds-z-x c = omega (arith, ap Rules.Operand.reg c.operand-one.ensures, c.requires.one.register)

pub bounds-z-x-2 : goal.bounds-z-x-2
bounds-z-x-2 c = omega (arith, ap Rules.Operand.reg c.operand-one.ensures, c.requires.one.register)

pub returns : goal.returns
unfolding combines changes given
returns c = λ k. rw (← c.operand-two.ensures, ← c.fetch.ensures, c.in-Some.is, ← c.act.ensures, fetch-register _ _ _ c.requires.one, store-register _ _ _ _ _ _ c.requires.one, c.add-2.ensures, c.add.ensures, plus-plus, c.index-x.ensures, ap Rules.Operand.reg c.operand-one.ensures)
