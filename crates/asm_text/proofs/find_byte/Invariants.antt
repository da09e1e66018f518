use Prim.Native.Nat.{◌+◌, ◌≤◌}
use mathlib.Core.Path.{◌≡◌}
use lib.ListN.{length, drop}
use Rattle.language.specs.Text.{span}
use Rattle.language.specs.Form.{before_byte}
use Rattle.asm_text.proofs.find_byte.Given as goal

abbrev pub invariant-loop-i : goal.invariant-loop-i
invariant-loop-i l = (l.i + span (before_byte l.d) (drop l.i l.s) ≡ l.from + span (before_byte l.d) (drop l.from l.s)) × (l.i ≤ length l.s)
