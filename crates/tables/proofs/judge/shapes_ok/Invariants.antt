use Rattle.tables.specs.Shape.{shape_ok}
use Rattle.table_layout.specs.Below.{below}
use mathlib.Core.Bool.{true}
use mathlib.Core.Path.{◌≡◌}
use Rattle.tables.proofs.judge.shapes_ok.Given as goal

abbrev pub invariant-loop-p : goal.invariant-loop-p
invariant-loop-p l = below (shape_ok l.places.table.now) l.p ≡ true
