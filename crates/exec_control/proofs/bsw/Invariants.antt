use Prim.Native.Nat.{◌+◌, ◌-◌, ◌<◌, ◌≤◌}
use lib.ListN.{length}
use Rattle.exec_core.specs.Seen.{place_of}
use Rattle.exec_control.proofs.Switched.{Walks}
use Rattle.exec_control.proofs.bsw.Given as goal

abbrev pub invariant-loop-i : goal.invariant-loop-i
invariant-loop-i l = Walks l.t (place_of l.b) l.v l.i × (l.i + 8 ≤ length l.t) × (l.i < 8200)

abbrev pub decreases-loop-i : goal.decreases-loop-i
decreases-loop-i l = length l.t - l.i
