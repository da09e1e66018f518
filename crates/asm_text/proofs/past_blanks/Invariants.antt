use Prim.Native.Nat.{◌+◌, ◌≤◌}
use mathlib.Core.Path.{◌≡◌}
use lib.ListN.{length, drop}
use Rattle.language.specs.Text.{is_blank, span}
use Rattle.asm_text.proofs.past_blanks.Given as goal

abbrev pub invariant-loop-i : goal.invariant-loop-i
invariant-loop-i l = (l.i + span is_blank (drop l.i l.s) ≡ l.from + span is_blank (drop l.from l.s)) × (l.i ≤ length l.s)
