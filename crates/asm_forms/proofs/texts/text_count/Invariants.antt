use Prim.Native.Nat.{◌+◌, ◌≤◌}
use mathlib.Core.Path.{◌≡◌}
use lib.ListN.{length, drop}
use Rattle.language.specs.Text.{parts}
use Rattle.language.specs.Form.{texts_in}
use Rattle.asm_forms.proofs.Divided.{comma}
use Rattle.asm_forms.proofs.texts.text_count.Given as goal

abbrev pub invariant-loop-i : goal.invariant-loop-i
invariant-loop-i l = (l.n + length (parts comma (drop l.i l.f)) ≡ 1 + length (texts_in l.f)) × (l.n ≤ l.i + 1)
