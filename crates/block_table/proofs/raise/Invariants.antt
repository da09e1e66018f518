use mathlib.Core.Path.{◌≡◌}
use lib.ListN.{length}
use Rattle.block_table.specs.Table.{Raised}
use Rattle.block_table.proofs.raise.Given as goal

abbrev pub invariant-loop-i : goal.invariant-loop-i
invariant-loop-i l = Raised l.i l.raised l.list × (length l.raised ≡ length l.initial.raised)
