-- `machine::steps::take_steps` meets its contract. The loop's invariant: the run is that of what is left of the budget from here, with
-- the steps taken so far, and the state here runs.
use mathlib.Core.Path.{refl, ◌∙◌}
use native.Mathlib.Omega.{arith}
use Rattle.dispatch.proofs.After.{goes_on_lem}
use Rattle.machine.proofs.Looping.{halts-below, halts-used, run-first, run-next}
use Rattle.machine.proofs.steps.take_steps.Goals as goal

pub loop-left-init : goal.loop-left-init
loop-left-init c = (run-first _ _ _, c.requires, omega arith, refl, refl)

pub dispatch-how-requires : goal.dispatch-how-requires
dispatch-how-requires c = c.loop-left.invariant.1

pub overflow_sub-left : goal.overflow_sub-left
overflow_sub-left c = omega (arith, c.if-left-eq0.false)

pub loop-left-smaller : goal.loop-left-smaller
loop-left-smaller c = omega (arith, c.if-left-eq0.false)

pub loop-left-preserved : goal.loop-left-preserved
loop-left-preserved c = let v = c.loop-left.invariant in let g = goes_on_lem v.1 _ c.dispatch-how.ensures.0 c.if-how-lt-BASE.false c.dispatch-how.ensures.1 in (v.0 ∙ run-next _ _ _ _ _ v.2 c.if-left-eq0.false g.0, g.1, omega arith, c.dispatch-how.auto.m ∙ v.3, c.dispatch-how.ensures.1 ∙ v.4)

pub shape_of-m-then-left-eq0 : goal.shape_of-m-then-left-eq0
shape_of-m-then-left-eq0 c = c.loop-left.invariant.3

pub returns-then-left-eq0 : goal.returns-then-left-eq0
returns-then-left-eq0 c = let v = c.loop-left.invariant in halts-used v.0 v.1 v.2 v.4 c.if-left-eq0.true

pub shape_of-m-then-how-lt-BASE : goal.shape_of-m-then-how-lt-BASE
shape_of-m-then-how-lt-BASE c = c.dispatch-how.auto.m ∙ c.loop-left.invariant.3

pub returns-then-how-lt-BASE : goal.returns-then-how-lt-BASE
returns-then-how-lt-BASE c = let v = c.loop-left.invariant in halts-below v.0 v.1 v.2 v.4 c.if-left-eq0.false c.dispatch-how.ensures.0 c.dispatch-how.ensures.1 c.if-how-lt-BASE.true
