use Rattle.entries.specs.Coded.{entry_ok}
use Rattle.table_layout.specs.Below.{below}
use Rattle.rules.specs.Table.{class_at}
use Rattle.ops.specs.Class.{class_code}
use lib.ListN.{length, get_or}
use mathlib.Core.Bool.{true}
use mathlib.Core.Path.{◌≡◌}
use Prim.Native.Nat.{ℕ, ◌<◌, ◌≤◌}
use Rattle.entries.proofs.fields.fields_ok.Given as goal

abbrev pub invariant-loop-p : goal.invariant-loop-p
invariant-loop-p l = (length l.classes ≡ length l.initial.classes) × (below (entry_ok l.table) l.p ≡ true)
    × ((q : ℕ) → q < l.p → get_or l.classes q 0 ≡ class_code (class_at l.table q))
