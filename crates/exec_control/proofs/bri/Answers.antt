use Rattle.exec_core.specs.Seen.{state_by}
use native.Mathlib.Omega.{arith}
use Rattle.rules.specs.Operand.{given}
use Rattle.rules.specs.Exec.{tells}
use Rattle.exec_core.specs.Entry.{readable, going}
use Rattle.exec_calls.proofs.Places.{entry-at}
use Rattle.exec_control.proofs.Entered.{entry-few, bri-goes}
use Rattle.exec_control.proofs.Takes.{bri-takes}
use Rattle.exec_control.proofs.bri.Goals as goal

pub fetch-requires : goal.fetch-requires
fetch-requires c = (rw c.operand-one.ensures (entry-at c.requires.0 readable readable going c.args.z.now c.requires.1 bri-takes).one, c.requires.1)

pub returns-in_default : goal.returns-in_default
unfolding tells given
returns-in_default c = λ k ls. rw (← c.operand-one.ensures, ← c.fetch.ensures, c.in_default.is)

pub returns-in_default-entry_of : goal.returns-in_default-entry_of
unfolding tells given
returns-in_default-entry_of c = λ k ls. rw (← c.operand-one.ensures, ← c.fetch.ensures, c.in-Some.is, ← c.entry_of.ensures, c.in_default-entry_of.is)

pub act-requires : goal.act-requires
act-requires c = rw c.operand-one.ensures (entry-at c.requires.0 readable readable going c.args.z.now c.requires.1 bri-takes).one

pub overflow_mul-result : goal.overflow_mul-result
overflow_mul-result c = omega (arith, (entry-few _ c.requires.0.checked _ _ c.entry_of.ensures c.in-Some-entry_of.is).few)

pub overflow_add-result : goal.overflow_add-result
overflow_add-result c = omega (arith, (entry-few _ c.requires.0.checked _ _ c.entry_of.ensures c.in-Some-entry_of.is).few)

pub returns : goal.returns
unfolding tells given
returns c = λ k ls. rw (← c.operand-one.ensures, ← c.fetch.ensures, c.in-Some.is, ← c.act.ensures, ← c.entry_of.ensures, c.in-Some-entry_of.is) (bri-goes c.args.t.now (state_by c.args.b c.args.z.now c.args.m.now ls) _ _ ls c.args.b c.in-Some-entry_of.q)
