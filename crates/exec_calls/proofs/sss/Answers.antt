use lib.ListN.{length-set}
use mathlib.Core.Path.{refl}
use Rattle.base.specs.Test.{if}
use Rattle.rules.specs.Operand.{given}
use Rattle.rules.specs.Exec.{tells}
use Rattle.exec_core.specs.Entry.{readable, going}
use Rattle.exec_calls.proofs.Places.{entry-at, on-is}
use Rattle.exec_calls.proofs.Linked.{links-cut}
use Rattle.exec_calls.proofs.Called.{sss-above, sss-within}
use Rattle.exec_calls.proofs.Takes.{sss-takes}
use Rattle.exec_calls.proofs.sss.Goals as goal

pub fetch-requires : goal.fetch-requires
fetch-requires c = (rw c.operand-one.ensures (entry-at c.requires.0 readable readable going c.args.z.now c.requires.1 sss-takes).one, c.requires.1)

pub returns-in_default : goal.returns-in_default
unfolding tells given
returns-in_default c = (λ k. rw (← c.operand-one.ensures, ← c.fetch.ensures, c.in_default.is), refl)

pub returns-then-links-v : goal.returns-then-links-v
unfolding tells given if
returns-then-links-v c = (λ k. rw (← c.operand-one.ensures, ← c.fetch.ensures, c.in-Some.is, sss-above c.requires.2 _ c.if-links-v.true), refl)

pub act-requires : goal.act-requires
act-requires c = rw c.operand-one.ensures (entry-at c.requires.0 readable readable going c.args.z.now c.requires.1 sss-takes).one

pub returns : goal.returns
unfolding tells given if
returns c = (λ k. rw (← c.operand-one.ensures, ← c.fetch.ensures, c.in-Some.is, ← c.act.ensures, sss-within c.requires.2 _ c.if-links-v.false, links-cut _ c.requires.2 _ c.if-links-v.false, on-is _ _ c.requires.0.starts), length-set c.args.links.now 256 c.in-Some.v)
