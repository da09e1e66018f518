use Rattle.rules.specs.Check.{fresh_ok}
use mathlib.Core.Path.{◌≡◌}
use Prim.Native.Nat.{◌-◌, ◌≤◌}
use Rattle.table_layout.proofs.fresh_ok.Given as goal

abbrev pub invariant-loop-i : goal.invariant-loop-i
invariant-loop-i l = (l.low ≤ 200000) × (fresh_ok l.table l.initial.low 0 l.f ≡ fresh_ok l.table l.low l.i (l.f - l.i))
