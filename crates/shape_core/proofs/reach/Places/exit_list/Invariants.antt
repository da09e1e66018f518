use Rattle.rules.specs.Check.{all_exits}
use Prim.Native.Nat.{◌+◌, ◌-◌, ◌≤◌}
use mathlib.Core.Path.{◌≡◌}
use Rattle.shape_core.proofs.reach.Places.exit_list.Given as goal

abbrev pub invariant-loop-i : goal.invariant-loop-i
invariant-loop-i l = (l.i ≤ l.k) × (all_exits l.self.table.now l.p l.k ≡ all_exits l.self.table.now (l.p + l.i) (l.k - l.i))
