use Rattle.rules.specs.Check as Check
use Rattle.std.proofs.Common.{◌≡◌, ◌+◌, ◌-◌, ◌≤◌}
use Rattle.shape_values.proofs.pairs.unlike.Given as goal

abbrev pub invariant-loop-i : goal.invariant-loop-i
invariant-loop-i l = (l.i ≤ l.k) × (Check.unlike l.table l.v l.p l.k ≡ Check.unlike l.table l.v (l.p + l.i) (l.k - l.i))
