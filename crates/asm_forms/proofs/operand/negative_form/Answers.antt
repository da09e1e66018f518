-- `asm_forms::operand::negative_form` meets its contract: each return rewrites with the tests that led there.
use mathlib.Core.Path.{refl, ap, ◌∙◌}
use mathlib.Core.Bool.{true}
use lib.ListN.{drop}
use Rattle.base.specs.Test.{if}
use Rattle.language.specs.Text.{number_of}
use Rattle.language.specs.Form.{falling, form_or, formless, index_in, signed_form}
use Rattle.asm_types.specs.Views.{cut_parsed, parsed_view}
use Rattle.asm_forms.proofs.Forms.{index-in-le, no_cut, on-rest, with_number}
use Rattle.asm_forms.proofs.operand.negative_form.Goals as goal

pub returns-in-Some : goal.returns-in-Some
unfolding signed_form if
returns-in-Some c =
    let s = c.args.s.now in
    let x = on-rest (λ l. cut_parsed (number_of l)) s 1 c.number_of-n.ensures ∙ ap parsed_view c.in-Some.is in
    rw c.requires.1 (with_number (number_of (drop 1 s)) _ true (form_or (index_in (drop 1 s) 4) falling formless) x)

pub returns-in_default-r : goal.returns-in_default-r
unfolding signed_form if
returns-in_default-r c =
    let s = c.args.s.now in
    let x = on-rest (λ l. cut_parsed (number_of l)) s 1 c.number_of-n.ensures ∙ ap parsed_view c.in_default.is in
    let y = on-rest (λ l. index_in l 4) s 1 c.index_in-r.ensures ∙ ap parsed_view c.in_default-r.is in
    rw (c.requires.1, no_cut (number_of (drop 1 s)) x, y) refl

pub narrow-requires : goal.narrow-requires
narrow-requires c =
    let s = c.args.s.now in
    index-in-le (drop 1 s) 4 _ (on-rest (λ l. index_in l 4) s 1 c.index_in-r.ensures ∙ ap parsed_view c.in-Some-r.is)

pub returns : goal.returns
unfolding signed_form if
returns c =
    let s = c.args.s.now in
    let x = on-rest (λ l. cut_parsed (number_of l)) s 1 c.number_of-n.ensures ∙ ap parsed_view c.in_default.is in
    let y = on-rest (λ l. index_in l 4) s 1 c.index_in-r.ensures ∙ ap parsed_view c.in-Some-r.is in
    rw (c.requires.1, no_cut (number_of (drop 1 s)) x, y, c.narrow.ensures) refl
