use Rattle.rules.specs.Check.{iffs}
use Prim.Native.Nat.{◌+◌, ◌-◌, ◌≤◌}
use mathlib.Core.Path.{◌≡◌}
use Rattle.shape_switch.proofs.switch.count_iffs.Given as goal

abbrev pub invariant-loop-k : goal.invariant-loop-k
invariant-loop-k l = (l.p + l.k ≤ l.places.n) × (iffs l.places.table.now l.p l.places.n ≡ l.k + iffs l.places.table.now (l.p + l.k) (l.places.n - l.k))
