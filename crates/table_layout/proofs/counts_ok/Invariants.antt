use Rattle.table_layout.proofs.Sizes.{count_ok}
use Rattle.table_layout.specs.Below.{below}
use mathlib.Core.Bool.{true}
use mathlib.Core.Path.{◌≡◌}
use Rattle.table_layout.proofs.counts_ok.Given as goal

abbrev pub invariant-loop-i : goal.invariant-loop-i
invariant-loop-i l = below (count_ok l.table) l.i ≡ true
