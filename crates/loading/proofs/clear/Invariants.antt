use Prim.Native.Nat.{◌≤◌}
use mathlib.Core.Path.{◌≡◌}
use lib.ListN.{length}
use Rattle.loading.proofs.Loads.{Clearing}
use Rattle.loading.proofs.clear.Given as goal

abbrev pub invariant-loop-i : goal.invariant-loop-i
invariant-loop-i l = (l.end ≡ length l.initial.memory) × (l.from ≤ l.i) × Clearing l.initial.memory l.from l.i l.memory
