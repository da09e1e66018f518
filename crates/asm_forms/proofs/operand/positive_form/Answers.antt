-- `asm_forms::operand::positive_form` meets its contract: each return rewrites with the tests that led there.
use mathlib.Core.Path.{refl, ap, ◌∙◌}
use mathlib.Core.Bool.{false}
use lib.ListN.{drop}
use Rattle.base.specs.Test.{if}
use Rattle.language.specs.Text.{number_of}
use Rattle.language.specs.Form.{formless, signed_form}
use Rattle.asm_types.specs.Views.{cut_parsed, parsed_view}
use Rattle.asm_forms.proofs.Forms.{no_cut, on-rest, with_number}
use Rattle.asm_forms.proofs.operand.positive_form.Goals as goal

pub returns-in_default : goal.returns-in_default
unfolding signed_form if
returns-in_default c =
    let s = c.args.s.now in
    let x = on-rest (λ l. cut_parsed (number_of l)) s 1 c.number_of-n.ensures ∙ ap parsed_view c.in_default.is in
    rw (c.requires.1, no_cut (number_of (drop 1 s)) x) refl

pub returns : goal.returns
unfolding signed_form if
returns c =
    let s = c.args.s.now in
    let x = on-rest (λ l. cut_parsed (number_of l)) s 1 c.number_of-n.ensures ∙ ap parsed_view c.in-Some.is in
    rw c.requires.1 (with_number (number_of (drop 1 s)) _ false formless x)
