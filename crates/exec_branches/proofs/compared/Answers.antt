use Rattle.rules.specs.Operand as Rules
use native.Mathlib.Omega.{arith}
use mathlib.Core.Path.{ap}
use Rattle.rules.specs.Operand.{given}
use Rattle.rules.specs.Exec.{compares, tells}
use Rattle.exec_core.proofs.Laws.{undone, kept-zero}
use Rattle.exec_branches.proofs.compared.Goals as goal

pub fetch-requires : goal.fetch-requires
fetch-requires c = (rw c.operand-one.ensures c.requires.one, c.requires.zero)

pub returns-in_err-v : goal.returns-in_err-v
unfolding compares given
returns-in_err-v c = λ way f. rw (c.from_residual.ensures, ← c.operand-one.ensures, ← c.in_err-v.ensures)

pub bounds-z-x : goal.bounds-z-x
bounds-z-x c = omega (arith, ap Rules.Operand.reg c.operand-one.ensures, c.requires.one.register)

pub act-requires : goal.act-requires
act-requires c = rw c.operand-one.ensures c.requires.one

pub fetch-requires-2 : goal.fetch-requires-2
fetch-requires-2 c = (rw c.operand-two.ensures c.requires.two, kept-zero _ _ _ c.act.ensures (rw c.operand-one.ensures c.requires.one) c.requires.zero)

pub bounds-z-x-in_default : goal.bounds-z-x-in_default
bounds-z-x-in_default c = omega (arith, ap Rules.Operand.reg c.operand-one.ensures, c.requires.one.register)

pub returns-in_default : goal.returns-in_default
unfolding compares tells given
returns-in_default c = λ way f. rw (undone _ _ _ c.act.ensures c.index-x.ensures, ← c.operand-one.ensures, ← c.fetch.ensures, c.in_ok-v.was, ← c.act.ensures, ← c.operand-two.ensures, ← c.fetch-2.ensures, c.in_default.is)

pub act-requires-2 : goal.act-requires-2
act-requires-2 c = rw c.operand-two.ensures c.requires.two

pub returns : goal.returns
unfolding compares tells given
returns c = λ way f. rw (← c.operand-one.ensures, ← c.fetch.ensures, c.in_ok-v.was, ← c.act.ensures, ← c.operand-two.ensures, ← c.fetch-2.ensures, c.in-Some.is, c.act-2.ensures)
