-- `asm_outcomes::first_name` meets its contract: none is written, or the name of the field's first text.
use mathlib.Core.Path.{sym, ◌∙◌}
use native.Mathlib.Omega.{arith}
use Rattle.language.specs.Fault.{forms_of}
use Rattle.asm_types.specs.Views.{card_view, operation_view}
use Rattle.asm_outcomes.proofs.Written.{unwritten-name, written-name}
use Rattle.asm_outcomes.proofs.first_name.Goals as goal

pub returns-then-form_count-eq0 : goal.returns-then-form_count-eq0
returns-then-form_count-eq0 c = unwritten-name (forms_of (card_view c.args.c c.args.s.now)) (sym c.form_count.ensures ∙ c.if-form_count-eq0.true)

pub returns : goal.returns
unfolding forms_of
returns c =
    c.form_name.ensures
    ∙ written-name (operation_view c.args.c.operation) c.args.s.now (omega (arith, c.form_count.ensures, c.if-form_count-eq0.false)) _ c.field_form.ensures
