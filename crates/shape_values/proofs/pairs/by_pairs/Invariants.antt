use Rattle.rules.specs.Check as Check
use Rattle.std.proofs.Common.{◌≡◌, ◌+◌, ◌-◌, ◌≤◌, true}
use Rattle.shape_values.proofs.pairs.by_pairs.Given as goal

abbrev pub invariant-loop-left : goal.invariant-loop-left
invariant-loop-left l = (l.left ≤ l.k) × (Check.distinct_iffs l.table l.limit (l.p + (l.k - l.left)) l.left ≡ true)
