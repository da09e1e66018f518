-- `machine::steps::steps_taken` meets its contract.
use borrow.Author.Tests.{eq-eqb, ne_eqb}
use Rattle.base.specs.Test.{if}
use Rattle.machine.specs.Halting.{steps_taken_of}
use Rattle.machine.proofs.steps.steps_taken.Goals as goal

pub returns-then-how-eq-WAITS : goal.returns-then-how-eq-WAITS
unfolding steps_taken_of if
returns-then-how-eq-WAITS c = rw (eq-eqb _ _ c.if-how-eq-WAITS.true)

pub returns : goal.returns
unfolding steps_taken_of if
returns c = rw (ne_eqb _ _ c.if-how-eq-WAITS.false)
