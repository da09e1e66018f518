use Rattle.rules.specs.Check as Check
use Rattle.std.proofs.Common.{◌≡◌, ◌+◌, ◌-◌, ◌≤◌, true, length}
use Rattle.shape_core.specs.Counted.{Marked}
use Rattle.shape_values.proofs.marks.by_marks.Given as goal

abbrev pub invariant-loop-left : goal.invariant-loop-left
invariant-loop-left l = (l.left ≤ l.k) × (length l.marks ≡ 1024) × (Check.distinct_iffs l.table l.limit (l.p + (l.k - l.left)) l.left ≡ true) × Marked l.table l.marks (l.p + (l.k - l.left)) l.left
