use Prim.Native.Nat.{◌+◌, ◌≤◌, ◌<◌}
use mathlib.Core.Path.{◌≡◌}
use lib.ListN.{length}
use Rattle.rules.specs.Exec.{copied_words}
use Rattle.block_chars.proofs.Laws.{AllWords}
use Rattle.block_copy.proofs.copy_words_above.Given as goal

abbrev pub invariant-loop-distance : goal.invariant-loop-distance
invariant-loop-distance l = (copied_words l.n l.from l.to l.initial.m ≡ copied_words l.left l.from (l.from + l.distance) l.m) × (l.from + l.distance + l.left ≤ length l.initial.m) × (0 < l.distance) × (length l.m ≡ length l.initial.m) × AllWords l.m

abbrev pub decreases-loop-distance : goal.decreases-loop-distance
decreases-loop-distance l = l.left
