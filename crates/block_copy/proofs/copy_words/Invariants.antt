use Prim.Native.Nat.{◌+◌, ◌-◌}
use mathlib.Core.Path.{◌≡◌}
use lib.ListN.{length}
use Rattle.rules.specs.Exec.{copied_words}
use Rattle.block_copy.proofs.copy_words.Given as goal

abbrev pub invariant-loop-i : goal.invariant-loop-i
invariant-loop-i l = (copied_words l.n l.from l.to l.initial.m ≡ copied_words (l.n - l.i) (l.from + l.i) (l.to + l.i) l.m) × (length l.m ≡ length l.initial.m)
