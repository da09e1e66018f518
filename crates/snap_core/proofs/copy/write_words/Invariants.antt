use Prim.Native.Nat.{◌+◌, ◌*◌, ◌≤◌}
use mathlib.Core.Path.{◌≡◌}
use lib.ListN.{length, drop}
use Rattle.rules.specs.Snapshot.{bytes_from}
use Rattle.snap_core.specs.Buffers.{put}
use Rattle.snap_core.proofs.copy.write_words.Given as goal

abbrev pub invariant-loop-i : goal.invariant-loop-i
invariant-loop-i l = (length l.file ≡ length l.initial.file) × (l.i ≤ length l.ws) × (put l.initial.file l.at (bytes_from l.ws) ≡ put l.file (l.at + 4 * l.i) (bytes_from (drop l.i l.ws)))
