use Rattle.rules.specs.Operand.{given}
use Rattle.rules.specs.Exec.{tells}
use Rattle.exec_branches.proofs.taken.Goals as goal

pub fetch-requires : goal.fetch-requires
fetch-requires c = (rw c.operand-one.ensures c.requires.one, c.requires.zero)

pub returns-in_err-v : goal.returns-in_err-v
unfolding tells given
returns-in_err-v c = λ way f. rw (c.from_residual.ensures, ← c.operand-one.ensures, ← c.in_err-v.ensures)

pub act-requires : goal.act-requires
act-requires c = rw c.operand-one.ensures c.requires.one

pub returns : goal.returns
unfolding tells given
returns c = λ way f. rw (← c.operand-one.ensures, ← c.fetch.ensures, c.in_ok-v.was, c.act.ensures)
