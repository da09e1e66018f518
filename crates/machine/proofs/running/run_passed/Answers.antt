-- `machine::running::run_passed` meets its contract: 32, 20 of a state that waits, or the run of one that does not.
use mathlib.Core.Path.{refl}
use Rattle.rules.specs.Number.{over_budget, waits}
use Rattle.states.specs.Views.{state_of}
use Rattle.resuming.specs.declared.answers.Answer.TheVariants.{OverBudget, Waits}
use Rattle.resuming.proofs.Granted.{few-open}
use Rattle.machine.proofs.Promised.{over-budget, run-ended, run-refused, run-waits}
use Rattle.machine.proofs.running.run_passed.Goals as goal

pub returns-then-budget-gt-MAX_BUDGET : goal.returns-then-budget-gt-MAX_BUDGET
returns-then-budget-gt-MAX_BUDGET c = run-refused _ _ _ _ _ OverBudget over_budget refl (over-budget _ _ _ c.requires _ c.if-budget-gt-MAX_BUDGET.true) c.refused.ensures

pub settle-requires : goal.settle-requires
settle-requires c = few-open _ _ _ c.requires

pub returns-then-state : goal.returns-then-state
returns-then-state c = run-ended _ _ _ c.requires _ _ _ Waits waits 0 (state_of c.args.state c.args.memory.now) refl (run-waits _ _ _ c.requires _ c.if-budget-gt-MAX_BUDGET.false c.if-state.true) (rw c.settle.ensures) refl
