-- `loading::start_base` meets its contract.
use native.Mathlib.Omega.{arith}
use Rattle.rules.specs.Table.{externals, fresh_count, size}
use Rattle.loading.proofs.Sizes.{sizes}
use Rattle.loading.proofs.start_base.Goals as goal

pub overflow_add-result : goal.overflow_add-result
unfolding fresh_count size
overflow_add-result c = omega (arith, c.fresh_base.ensures, c.fresh_count.ensures, sizes _ c.requires)

pub bounds-table-4 : goal.bounds-table-4
bounds-table-4 c = omega (arith, sizes _ c.requires)

pub overflow_add-result-2 : goal.overflow_add-result-2
unfolding fresh_count size
overflow_add-result-2 c = omega (arith, c.fresh_base.ensures, c.fresh_count.ensures, c.index.ensures, sizes _ c.requires)

pub returns : goal.returns
unfolding externals
returns c = rw (c.fresh_base.ensures, c.fresh_count.ensures, c.index.ensures)
