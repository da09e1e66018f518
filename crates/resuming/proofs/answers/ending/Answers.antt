-- `resuming::answers::ending` meets its contract.
use borrow.Author.Tests.{ne_eqb}
use Rattle.base.specs.Test.{if}
use Rattle.resuming.specs.Answers.{outcome_by}
use Rattle.resuming.proofs.answers.ending.Goals as goal

pub returns-in-20 : goal.returns-in-20
unfolding outcome_by if
returns-in-20 c = rw c.in-20.is

pub returns-in-21 : goal.returns-in-21
unfolding outcome_by if
returns-in-21 c = rw c.in-21.is

pub returns-in-22 : goal.returns-in-22
unfolding outcome_by if
returns-in-22 c = rw c.in-22.is

pub returns-in-23 : goal.returns-in-23
unfolding outcome_by if
returns-in-23 c = rw c.in-23.is

pub returns-in-24 : goal.returns-in-24
unfolding outcome_by if
returns-in-24 c = rw c.in-24.is

pub returns-in-25 : goal.returns-in-25
unfolding outcome_by if
returns-in-25 c = rw c.in-25.is

pub returns-in-26 : goal.returns-in-26
unfolding outcome_by if
returns-in-26 c = rw c.in-26.is

pub returns-in-27 : goal.returns-in-27
unfolding outcome_by if
returns-in-27 c = rw c.in-27.is

pub returns-in-28 : goal.returns-in-28
unfolding outcome_by if
returns-in-28 c = rw c.in-28.is

pub returns-in-29 : goal.returns-in-29
unfolding outcome_by if
returns-in-29 c = rw c.in-29.is

pub returns-in_default : goal.returns-in_default
unfolding outcome_by if
returns-in_default c = simp (ne_eqb _ _ c.in_default.in_default-own.rest.0.0.0.0.0.0.0.0.0.1, ne_eqb _ _ c.in_default.in_default-own.rest.0.0.0.0.0.0.0.0.1, ne_eqb _ _ c.in_default.in_default-own.rest.0.0.0.0.0.0.0.1, ne_eqb _ _ c.in_default.in_default-own.rest.0.0.0.0.0.0.1, ne_eqb _ _ c.in_default.in_default-own.rest.0.0.0.0.0.1, ne_eqb _ _ c.in_default.in_default-own.rest.0.0.0.0.1, ne_eqb _ _ c.in_default.in_default-own.rest.0.0.0.1, ne_eqb _ _ c.in_default.in_default-own.rest.0.0.1, ne_eqb _ _ c.in_default.in_default-own.rest.0.1, ne_eqb _ _ c.in_default.in_default-own.rest.1)
