-- The table is the rows of the specification, cell by cell: both sides compute to the same numbers.
use mathlib.Core.Path.{refl}
use Rattle.ops.specs.Ops.{rows}
use Rattle.op_table.proofs.rows.Goals as goal

pub returns : goal.returns
unfolding rows
returns c = refl
