use Prim.Native.Nat.{◌≤◌}
use mathlib.Core.Path.{◌≡◌}
use mathlib.Core.List.{map}
use lib.ListN.{drop}
use Rattle.ops.specs.Lookup.{first_with, by_cell}
use Rattle.supplied.specs.Supplied.{supplies, supply_cells, value_at, supplied_of}
use Rattle.supplied.proofs.supplied_value.Given as goal

abbrev pub invariant-loop-row : goal.invariant-loop-row
invariant-loop-row l = (l.row-index ≤ 45) × (l.row-items ≡ map supply_cells supplies) × (value_at (first_with by_cell l.key l.row-index (drop l.row-index l.row-items)) ≡ supplied_of l.a l.b l.c l.d l.e)
