use Rattle.rules.specs.Operand as Rules
use native.Mathlib.Omega.{arith}
use mathlib.Core.Path.{ap}
use Rattle.rules.specs.Operand.{given}
use Rattle.rules.specs.Exec.{changes}
use Rattle.exec_core.proofs.Laws.{place-kind, fetch-register, store-register}
use Rattle.exec_branches.proofs.bct.Goals as goal

pub bounds-z-x : goal.bounds-z-x
bounds-z-x c = omega (arith, ap Rules.Operand.reg c.operand-one.ensures, c.requires.one.register)

pub bounds-z-x-2 : goal.bounds-z-x-2
bounds-z-x-2 c = omega (arith, ap Rules.Operand.reg c.operand-one.ensures, c.requires.one.register)

pub second_if-requires : goal.second_if-requires
second_if-requires c = (c.requires.inside, c.requires.near, place-kind c.requires.two)

pub returns : goal.returns
unfolding changes given
returns c = λ k m. rw (fetch-register _ _ _ c.requires.one, store-register _ _ _ _ _ _ c.requires.one, c.second_if.ensures, c.sub-v.ensures, c.index-x.ensures, ap Rules.Operand.reg c.operand-one.ensures)
