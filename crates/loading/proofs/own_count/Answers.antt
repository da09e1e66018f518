-- `loading::own_count` meets its contract.
use native.Mathlib.Omega.{arith}
use Rattle.rules.specs.Table.{constants, workings}
use Rattle.loading.proofs.Sizes.{sizes}
use Rattle.loading.proofs.own_count.Goals as goal

pub bounds-table-1 : goal.bounds-table-1
bounds-table-1 c = omega (arith, sizes _ c.requires)

pub bounds-table-2 : goal.bounds-table-2
bounds-table-2 c = omega (arith, sizes _ c.requires)

pub overflow_add-result : goal.overflow_add-result
overflow_add-result c = omega (arith, c.index.ensures, c.index-2.ensures, sizes _ c.requires)

pub returns : goal.returns
unfolding constants workings
returns c = rw (c.index.ensures, c.index-2.ensures)
