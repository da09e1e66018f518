-- `table_layout::table_length` meets its contract.
use Rattle.rules.specs.Table.{table_length, size, constants, workings, fresh_count, externals}
use native.Mathlib.Omega.{arith}
use Rattle.table_layout.proofs.table_length.Goals as goal

pub returns : goal.returns
unfolding table_length size constants workings fresh_count externals
returns c = omega arith
