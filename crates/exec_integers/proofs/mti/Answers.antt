use Rattle.rules.specs.Exec.{loads}
use Rattle.rules.specs.Operand.{given}
use Rattle.exec_integers.proofs.mti.Goals as goal

pub fetch-requires : goal.fetch-requires
fetch-requires c = (rw c.operand-one.ensures c.requires.one, c.requires.zero)

pub returns-in_default : goal.returns-in_default
unfolding loads given
returns-in_default c = rw (← c.operand-one.ensures, ← c.fetch.ensures, c.in_default.is)

pub act-requires : goal.act-requires
act-requires c = rw c.operand-one.ensures c.requires.one

pub returns : goal.returns
unfolding loads given
returns c = rw (← c.operand-one.ensures, ← c.fetch.ensures, c.in-Some.is, ← c.act.ensures)
