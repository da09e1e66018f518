use Prim.Native.Nat.{◌-◌, ◌*◌}
use mathlib.Core.Path.{◌≡◌}
use lib.ListN.{length}
use Rattle.rules.specs.Exec.{translated}
use Rattle.block_table.specs.Table.{Listed}
use Rattle.block_table.proofs.translate_by.Given as goal

abbrev pub invariant-loop-f : goal.invariant-loop-f
invariant-loop-f l = (translated (4 * l.n) (4 * l.from) l.to l.initial.m ≡ translated (4 * (l.f-end - l.f)) (4 * l.f) l.to l.m) × (length l.m ≡ length l.initial.m) × Listed 256 l.lists.ones l.m l.to
