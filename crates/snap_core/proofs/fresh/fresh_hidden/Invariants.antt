use mathlib.Core.Path.{◌≡◌}
use Rattle.rules.specs.Table.{fresh_count}
use Rattle.base.specs.Test.{Ok}
use Rattle.rules.specs.Snapshot.{fresh_hidden, words_in}
use Rattle.snap_core.proofs.fresh.fresh_hidden.Given as goal

abbrev pub invariant-loop-i : goal.invariant-loop-i
invariant-loop-i l = (l.i-end ≡ fresh_count l.table) × Ok (fresh_hidden l.table (words_in l.file l.at l.m) l.i)
