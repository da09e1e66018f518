use mathlib.Core.Path.{◌≡◌}
use lib.ListN.{length}
use Rattle.block_table.specs.Table.{Listed}
use Rattle.block_table.proofs.fill.Given as goal

abbrev pub invariant-loop-i : goal.invariant-loop-i
invariant-loop-i l = Listed l.i l.list l.m l.to × (length l.list ≡ length l.initial.list)
