use Prim.Native.Nat.{◌+◌, ◌*◌, ◌-◌, ◌≤◌}
use mathlib.Core.Path.{◌≡◌}
use mathlib.Core.List.{◌++◌}
use lib.ListN.{length, take}
use Rattle.rules.specs.Snapshot.{words_in}
use Rattle.snap_core.proofs.copy.read_words.Given as goal

abbrev pub invariant-loop-i : goal.invariant-loop-i
invariant-loop-i l = (length l.ws ≡ length l.initial.ws) × (l.i ≤ length l.ws) × (words_in l.file l.at (length l.initial.ws) ≡ take l.i l.ws ++ words_in l.file (l.at + 4 * l.i) (length l.initial.ws - l.i))
