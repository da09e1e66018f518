-- `asm_forms::operand::multiple_form` meets its contract: each return rewrites with the tests that led there.
use mathlib.Core.Path.{refl, ap, ◌∙◌}
use Rattle.base.specs.Test.{if}
use Rattle.language.specs.Text.{symbol_of}
use Rattle.language.specs.Form.{marked_form}
use Rattle.asm_types.specs.Views.{parsed_view}
use Rattle.asm_forms.proofs.Forms.{on-rest}
use Rattle.asm_forms.proofs.operand.multiple_form.Goals as goal

pub returns-in_default : goal.returns-in_default
unfolding marked_form if
returns-in_default c = rw (c.requires.1, on-rest symbol_of c.args.s.now 1 c.symbol_of-k.ensures ∙ ap parsed_view c.in_default.is) refl

pub returns : goal.returns
unfolding marked_form if
returns c = rw (c.requires.1, on-rest symbol_of c.args.s.now 1 c.symbol_of-k.ensures ∙ ap parsed_view c.in-Some.is) refl
