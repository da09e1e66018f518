use Rattle.rules.specs.Table.{class_at}
use Rattle.ops.specs.Class.{class_code}
use lib.ListN.{length, get_or}
use Prim.Native.Nat.{ℕ, ◌<◌, ◌≤◌}
use mathlib.Core.Path.{◌≡◌}
use Rattle.asm_shapes.proofs.classes.classes_of.Given as goal

abbrev pub invariant-loop-p : goal.invariant-loop-p
invariant-loop-p l = (l.p ≤ l.n) × (length l.classes ≡ length l.initial.classes) × ((q : ℕ) → q < l.p → get_or l.classes q 0 ≡ class_code (class_at l.table q))
