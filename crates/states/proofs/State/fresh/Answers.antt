-- `states::State::fresh` meets its contract: the limits of memory keep all its numbers in range.
use native.Mathlib.Omega.{arith}
use Rattle.rules.specs.Table.{constants, section4, workings}
use Rattle.states.specs.Views.{fresh_of}
use Rattle.states.proofs.Coded.{lent}
use Rattle.states.proofs.State.fresh.Goals as goal

pub overflow_sub-result : goal.overflow_sub-result
overflow_sub-result c = omega (arith, lent _ _ c.requires)

pub overflow_cast-result : goal.overflow_cast-result
overflow_cast-result c = omega (arith, lent _ _ c.requires)

pub overflow_mul-result : goal.overflow_mul-result
overflow_mul-result c = omega (arith, lent _ _ c.requires)

pub bounds-table-1 : goal.bounds-table-1
bounds-table-1 c = omega (arith, lent _ _ c.requires)

pub bounds-table-2 : goal.bounds-table-2
bounds-table-2 c = omega (arith, lent _ _ c.requires)

pub overflow_add-result-2 : goal.overflow_add-result-2
overflow_add-result-2 c = omega (arith, lent _ _ c.requires)

pub overflow_mul-result-2 : goal.overflow_mul-result-2
overflow_mul-result-2 c = omega (arith, lent _ _ c.requires)

pub overflow_cast-result-2 : goal.overflow_cast-result-2
overflow_cast-result-2 c = omega (arith, lent _ _ c.requires)

pub overflow_mul-result-3 : goal.overflow_mul-result-3
overflow_mul-result-3 c = omega (arith, lent _ _ c.requires)

pub bounds-table-5 : goal.bounds-table-5
bounds-table-5 c = omega (arith, lent _ _ c.requires)

pub returns : goal.returns
unfolding fresh_of constants workings section4
returns c = rw c.no_links-links.ensures
