use mathlib.Core.Path.{◌∙◌}
use Rattle.rules.specs.Operand.{given}
use Rattle.rules.specs.Exec.{combines, changes}
use Rattle.exec_bits.proofs.orb.Goals as goal

pub fetch-requires : goal.fetch-requires
fetch-requires c = (rw c.operand-one.ensures c.requires.one, c.requires.zero)

pub returns-in_default : goal.returns-in_default
unfolding combines given
returns-in_default c = λ k. rw (← c.operand-one.ensures, ← c.fetch.ensures, c.in_default.is)

pub act-requires : goal.act-requires
act-requires c = rw c.operand-one.ensures c.requires.one

pub returns : goal.returns
unfolding combines changes given
returns c = λ k. c.put.ensures k c.args.z.now c.args.m.now ∙ rw (← c.operand-one.ensures, ← c.fetch.ensures, c.in-Some.is, ← c.act.ensures, c.register-w.ensures _, c.orb.ensures)
