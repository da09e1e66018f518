-- `asm_forms::operand::indexed_form` meets its contract: each return rewrites with the tests that led there.
use mathlib.Core.Path.{refl, ap, ◌∙◌}
use lib.ListN.{drop, take}
use Rattle.language.specs.Text.{number_of, symbol_of}
use Rattle.language.specs.Form.{formless, index_in, indexed, indexed_form}
use Rattle.asm_types.specs.Views.{parsed_view}
use Rattle.asm_forms.specs.Terms.{cut_read, term_in, value_view}
use Rattle.asm_forms.proofs.Forms.{index-in-le, no_number, no_symbol, on-front, on-rest, with-term}
use Rattle.asm_forms.proofs.operand.indexed_form.Goals as goal

pub returns-in_default : goal.returns-in_default
unfolding indexed_form
returns-in_default c = rw (on-rest (λ l. index_in l 4) c.args.s.now c.args.i c.index_in-r.ensures ∙ ap parsed_view c.in_default.is) refl

pub returns-in_default-v : goal.returns-in_default-v
unfolding indexed_form
returns-in_default-v c =
    let s = c.args.s.now in
    let l = take c.args.i s in
    let y = on-rest (λ l. index_in l 4) s c.args.i c.index_in-r.ensures ∙ ap parsed_view c.in-Some.is in
    let t = on-front (λ l. cut_read (term_in l)) s c.args.i c.term_of-v.ensures ∙ ap value_view c.in_default-v.is in
    rw (y, no_symbol (symbol_of l) (number_of l) t, no_number (symbol_of l) (number_of l) t) refl

pub narrow-reg-requires : goal.narrow-reg-requires
narrow-reg-requires c =
    let s = c.args.s.now in
    index-in-le (drop c.args.i s) 4 _ (on-rest (λ l. index_in l 4) s c.args.i c.index_in-r.ensures ∙ ap parsed_view c.in-Some.is)

pub returns : goal.returns
unfolding indexed_form
returns c =
    let s = c.args.s.now in
    let l = take c.args.i s in
    let r = c.in-Some.r in
    let y = on-rest (λ l. index_in l 4) s c.args.i c.index_in-r.ensures ∙ ap parsed_view c.in-Some.is in
    let t = on-front (λ l. cut_read (term_in l)) s c.args.i c.term_of-v.ensures ∙ ap value_view c.in-Some-v.is in
    rw (y, c.narrow-reg.ensures) (with-term (symbol_of l) (number_of l) _ (λ w. indexed w r) (λ w. indexed w r) formless (λ w. refl) t)
