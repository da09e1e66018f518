-- `asm_outcomes::field_count` meets its contract: the field is a part of the line.
use Prim.Native.Nat.{ℕ}
use mathlib.Core.Path.{ap, ◌∙◌}
use mathlib.Core.List.{List}
use lib.ListN.{length}
use Rattle.language.specs.Form.{texts_in}
use Rattle.asm_text.proofs.Slices.{field-part}
use Rattle.asm_outcomes.proofs.field_count.Goals as goal

pub returns : goal.returns
returns c = c.text_count.ensures ∙ ap (λ (l : List ℕ). length (texts_in l)) (field-part c.args.s.now _ c.fields_of-f.ensures)
