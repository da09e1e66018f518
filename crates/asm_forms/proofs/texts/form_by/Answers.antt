-- `asm_forms::texts::form_by` meets its contract: the forms of other cards, none, or a real number.
use mathlib.Core.Path.{ap, sym, ◌∙◌}
use Rattle.asm_types.specs.Views.{cut_form}
use Rattle.asm_reals.specs.Views.{decimal_view}
use Rattle.asm_forms.proofs.Divided.{no-real, of_others, of-real}
use Rattle.asm_forms.proofs.texts.form_by.Goals as goal

pub returns-then-not-real : goal.returns-then-not-real
returns-then-not-real c = c.form_of.ensures ∙ ap cut_form (of_others c.args.real c.args.s.now c.if-not-real.true)

pub returns-in-None : goal.returns-in-None
returns-in-None c = no-real c.args.real c.args.s.now c.if-not-real.false (sym (ap decimal_view c.in-None.is) ∙ c.decimal_of.ensures)

pub returns-in-Some : goal.returns-in-Some
returns-in-Some c = of-real c.args.real c.args.s.now c.if-not-real.false (sym (ap decimal_view c.in-Some.is) ∙ c.decimal_of.ensures)
