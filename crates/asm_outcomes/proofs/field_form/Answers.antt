-- `asm_outcomes::field_form` meets its contract: the field is a part of the line, read as a DRC's or as another card's.
use mathlib.Core.Path.{◌∙◌}
use Rattle.asm_outcomes.proofs.Written.{form-read}
use Rattle.asm_text.proofs.Slices.{field-part}
use Rattle.asm_outcomes.proofs.field_form.Goals as goal

pub returns : goal.returns
returns c =
    c.form_at.ensures
    ∙ form-read _ _ _ _ c.is_assembly.ensures (field-part c.args.s.now _ c.fields_of-f.ensures) c.args.i
