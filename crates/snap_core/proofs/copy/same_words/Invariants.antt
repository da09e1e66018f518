use Prim.Native.Nat.{◌+◌, ◌*◌, ◌-◌, ◌≤◌}
use mathlib.Core.Path.{◌≡◌}
use lib.ListN.{length, drop}
use Rattle.base.specs.Lists.{same}
use Rattle.rules.specs.Snapshot.{words_in}
use Rattle.snap_core.proofs.copy.same_words.Given as goal

abbrev pub invariant-loop-i : goal.invariant-loop-i
invariant-loop-i l = (l.i ≤ length l.ws) × (same (words_in l.file l.at (length l.ws)) l.ws ≡ same (words_in l.file (l.at + 4 * l.i) (length l.ws - l.i)) (drop l.i l.ws))
