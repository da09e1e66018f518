-- The table is the names of the specification, cell by cell: both sides compute to the same numbers.
use mathlib.Core.Path.{refl}
use Rattle.supplied.specs.Supplied.{supplies}
use Rattle.supplied.proofs.supplies.Goals as goal

pub returns : goal.returns
unfolding supplies
returns c = refl
