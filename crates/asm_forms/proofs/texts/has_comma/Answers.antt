-- `asm_forms::texts::has_comma` meets its contract: each return rewrites with the tests that led there.
use Prim.Native.Nat.{ℕ}
use mathlib.Core.Path.{ap, ◌∙◌}
use mathlib.Core.List.{List}
use lib.Dec.{ltb}
use lib.ListN.{length}
use Rattle.language.specs.Text.{in_part, span}
use Rattle.language.specs.Form.{has_comma}
use Rattle.asm_text.proofs.Slices.{field-part}
use Rattle.asm_forms.proofs.texts.has_comma.Goals as goal

pub returns : goal.returns
unfolding has_comma
returns c = c.comma_in.ensures ∙ ap (λ (l : List ℕ). ltb (span in_part l) (length l)) (field-part c.args.s.now _ c.fields_of-f.ensures)
