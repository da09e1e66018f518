-- `reals::answer` meets its contract: what is between the infinities is a value.
use mathlib.Core.Path.{sym}
use lib.Ieee.{div, neg, of_bits}
use Rattle.real_rules.proofs.Laws.{answer-between, answer-below, answer-above}
use Rattle.reals.proofs.answer.Goals as goal

pub returns-then-x-infinity : goal.returns-then-x-infinity
unfolding div neg of_bits
returns-then-x-infinity c = sym (answer-between _ c.if-infinity-x.true c.if-x-infinity.true)

pub returns-else-x-infinity : goal.returns-else-x-infinity
unfolding div neg of_bits
returns-else-x-infinity c = sym (answer-above _ c.if-x-infinity.false)

pub returns-else-infinity-x : goal.returns-else-infinity-x
unfolding div neg of_bits
returns-else-infinity-x c = sym (answer-below _ c.if-infinity-x.false)
