use Prim.Native.Nat.{◌≤◌}
use mathlib.Core.Path.{◌≡◌}
use lib.ListN.{length, drop}
use Rattle.language.specs.Text.{all, is_printed}
use Rattle.asm_text.proofs.all_printed.Given as goal

abbrev pub invariant-loop-i : goal.invariant-loop-i
invariant-loop-i l = (all is_printed (drop l.i l.s) ≡ all is_printed l.s) × (l.i ≤ length l.s)
