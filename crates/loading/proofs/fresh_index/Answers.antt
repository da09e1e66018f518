-- `loading::fresh_index` meets its contract.
use native.Mathlib.Omega.{arith}
use Rattle.loading.proofs.Sizes.{sizes}
use Rattle.rules.specs.Table.{fresh_at, fresh_count, size}
use Rattle.loading.proofs.fresh_index.Goals as goal

pub overflow_add-at : goal.overflow_add-at
unfolding fresh_count size
overflow_add-at c = omega (arith, c.fresh_base.ensures, c.requires.1, sizes _ c.requires.0)

pub offset_bounds-table-at : goal.offset_bounds-table-at
unfolding fresh_count size
offset_bounds-table-at c = omega (arith, c.fresh_base.ensures, c.requires.1, sizes _ c.requires.0)

pub bounds-table-at : goal.bounds-table-at
unfolding fresh_count size
bounds-table-at c = omega (arith, c.fresh_base.ensures, c.requires.1, sizes _ c.requires.0)

pub returns : goal.returns
unfolding fresh_at
returns c = rw (c.index.ensures, c.fresh_base.ensures)
