-- `loading::fresh_count` meets its contract.
use native.Mathlib.Omega.{arith}
use Rattle.loading.proofs.Sizes.{sizes}
use Rattle.rules.specs.Table.{fresh_count}
use Rattle.loading.proofs.fresh_count.Goals as goal

pub bounds-table-3 : goal.bounds-table-3
bounds-table-3 c = omega (arith, sizes _ c.requires)

pub returns : goal.returns
unfolding fresh_count
returns c = c.index.ensures
