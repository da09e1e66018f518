-- `asm_outcomes::field_formed` meets its contract: the field is a part of the line, read as a DRC's or as another card's.
use mathlib.Core.Path.{◌∙◌}
use Rattle.asm_outcomes.proofs.Written.{formed-read}
use Rattle.asm_text.proofs.Slices.{field-part}
use Rattle.asm_outcomes.proofs.field_formed.Goals as goal

pub returns : goal.returns
returns c =
    c.all_formed.ensures
    ∙ formed-read _ _ _ _ c.is_assembly.ensures (field-part c.args.s.now _ c.fields_of-f.ensures)
