use Prim.Native.Nat.{◌+◌, ◌-◌, ◌*◌}
use mathlib.Core.Path.{◌≡◌}
use lib.ListN.{length}
use Rattle.rules.specs.Exec.{copied_chars}
use Rattle.block_copy.proofs.merge_words.Given as goal

abbrev pub invariant-loop-i : goal.invariant-loop-i
invariant-loop-i l = (copied_chars (4 * l.n) (4 * l.from + l.r) (4 * l.to) l.initial.m ≡ copied_chars (4 * (l.n - l.i)) (4 * (l.from + l.i) + l.r) (4 * (l.to + l.i)) l.m) × (length l.m ≡ length l.initial.m)
