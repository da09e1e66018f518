use Prim.Native.Nat.{◌+◌, ◌≤◌}
use mathlib.Core.Path.{◌≡◌}
use lib.ListN.{length, drop}
use Rattle.language.specs.Text.{span}
use Rattle.language.specs.Form.{before_sign}
use Rattle.asm_forms.proofs.operand.find_sign.Given as goal

abbrev pub invariant-loop-i : goal.invariant-loop-i
invariant-loop-i l = (l.i + span before_sign (drop l.i l.s) ≡ span before_sign l.s) × (l.i ≤ length l.s)
