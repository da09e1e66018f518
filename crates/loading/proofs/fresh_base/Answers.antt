-- `loading::fresh_base` meets its contract.
use native.Mathlib.Omega.{arith}
use Rattle.loading.proofs.Sizes.{sizes}
use Rattle.rules.specs.Table.{size}
use Rattle.loading.proofs.fresh_base.Goals as goal

pub bounds-table-0 : goal.bounds-table-0
bounds-table-0 c = omega (arith, sizes _ c.requires)

pub overflow_mul-result : goal.overflow_mul-result
overflow_mul-result c = omega (arith, c.index.ensures, sizes _ c.requires)

pub overflow_add-result : goal.overflow_add-result
overflow_add-result c = omega (arith, c.index.ensures, sizes _ c.requires)

pub returns : goal.returns
unfolding size
returns c = rw c.index.ensures
