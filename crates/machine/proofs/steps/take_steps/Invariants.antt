use Prim.Native.Nat.{◌-◌, ◌≤◌}
use mathlib.Core.Path.{◌≡◌}
use lib.ListN.{length}
use Rattle.rules.specs.Run.{add_steps, steps}
use Rattle.exec_core.specs.Seen.{Running, open_links, state_by}
use Rattle.machine.proofs.steps.take_steps.Given as goal

abbrev pub invariant-loop-left : goal.invariant-loop-left
invariant-loop-left l = (steps l.t l.budget (state_by l.from l.initial.z l.initial.m (open_links l.initial.links)) ≡ add_steps (l.budget - l.left) (steps l.t l.left (state_by l.b l.z l.m (open_links l.links)))) × Running l.t l.b l.z l.m l.links l.c × (l.left ≤ l.budget) × (length l.m ≡ length l.initial.m) × (length l.links ≡ length l.initial.links)

abbrev pub decreases-loop-left : goal.decreases-loop-left
decreases-loop-left l = l.left
