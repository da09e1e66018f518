use Prim.Native.Nat.{◌-◌, ◌≤◌}
use mathlib.Core.Path.{◌≡◌}
use mathlib.Core.List.{map}
use lib.ListN.{length}
use Rattle.language.specs.Form.{all_formed, form_by, texts_in}
use Rattle.asm_forms.proofs.Divided.{formed_from}
use Rattle.asm_forms.proofs.texts.all_formed.Given as goal

abbrev pub invariant-loop-real : goal.invariant-loop-real
invariant-loop-real l = (formed_from l.real l.f l.from ≡ all_formed (map (form_by l.real) (texts_in l.f))) × (l.from ≤ length l.f)

abbrev pub decreases-loop-real : goal.decreases-loop-real
decreases-loop-real l = length l.f - l.from
