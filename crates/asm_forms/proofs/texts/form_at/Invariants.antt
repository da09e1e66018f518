use Prim.Native.Nat.{◌-◌, ◌≤◌}
use mathlib.Core.Path.{◌≡◌}
use mathlib.Core.List.{map}
use lib.ListN.{length, get_or}
use Rattle.language.specs.Form.{form_by, formless, texts_in}
use Rattle.asm_forms.proofs.Divided.{form_from}
use Rattle.asm_forms.proofs.texts.form_at.Given as goal

abbrev pub invariant-loop-k : goal.invariant-loop-k
invariant-loop-k l = (form_from l.real l.f l.from (l.i - l._k) ≡ get_or (map (form_by l.real) (texts_in l.f)) l.i formless) × (l.from ≤ length l.f)
