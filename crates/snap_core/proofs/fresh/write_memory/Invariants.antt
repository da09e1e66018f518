use Prim.Native.Nat.{ℕ}
use mathlib.Core.Path.{◌≡◌}
use mathlib.Core.List.{List, [], ◌++◌}
use Rattle.rules.specs.Start.{supplied}
use Rattle.rules.specs.Table.{fresh_count}
use lib.ListN.{length}
use Rattle.rules.specs.Snapshot.{bytes_from}
use Rattle.snap_core.proofs.fresh.write_memory.Given as goal

abbrev pub invariant-loop-i : goal.invariant-loop-i
invariant-loop-i l = (l.i-end ≡ fresh_count l.table) × (length l.file ≡ length l.initial.file) × ((r : List ℕ) → l.initial.file ≡ bytes_from l.memory ++ r → l.file ≡ bytes_from (supplied l.table [] l.i l.memory) ++ r)
