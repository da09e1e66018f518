use Prim.Native.Nat.{◌+◌, ◌≤◌}
use mathlib.Core.Path.{◌≡◌}
use lib.ListN.{length}
use Rattle.rules.specs.Start.{filled}
use Rattle.rules.specs.Table.{constants, entry_at, externals, fresh_count, size, workings}
use Rattle.loading.proofs.fill.Given as goal

abbrev pub invariant-loop-i : goal.invariant-loop-i
invariant-loop-i l = (l.n ≡ constants l.table + workings l.table) × (l.from ≡ entry_at (size l.table) + fresh_count l.table + externals l.table) × (length l.memory ≡ length l.initial.memory) × (l.i ≤ l.n) × (l.memory ≡ filled l.table l.i l.initial.memory)
