-- `asm_forms::operand::form_of` meets its contract: each return rewrites with the tests that led there.
use mathlib.Core.Path.{◌≡◌, refl, sym, ap, ◌∙◌}
use borrow.Author.Tests.{eq-eqb, ne_eqb}
use Rattle.base.specs.Test.{if}
use Rattle.language.specs.Text.{number_of, symbol_of}
use Rattle.language.specs.Form.{form_of, plain}
use Rattle.asm_types.specs.Views.{parsed_view}
use Rattle.asm_names.proofs.Registers.{register-le}
use Rattle.asm_forms.specs.Terms.{cut_read, term_in, unread, value_view}
use Rattle.asm_forms.proofs.Forms.{no_number, no_symbol, with-term}
use Rattle.asm_forms.proofs.operand.form_of.Goals as goal

pub returns-in-Some : goal.returns-in-Some
unfolding form_of if
returns-in-Some c =
    let s = c.args.s.now in
    with-term (symbol_of s) (number_of s) _ plain plain _ (λ w. refl) (sym c.term_of-v.ensures ∙ ap value_view c.in-Some.is)

pub narrow-requires : goal.narrow-requires
narrow-requires c = register-le c.args.s.now _ (sym c.register_of-r.ensures ∙ ap parsed_view c.in-Some-r.is)

pub returns-in-Some-r : goal.returns-in-Some-r
unfolding form_of if
returns-in-Some-r c =
    let s = c.args.s.now in
    let t : cut_read (term_in s) ≡ unread = sym c.term_of-v.ensures ∙ ap value_view c.in_default.is in
    rw (
      no_symbol (symbol_of s) (number_of s) t,
      no_number (symbol_of s) (number_of s) t,
      sym c.register_of-r.ensures ∙ ap parsed_view c.in-Some-r.is,
      c.narrow.ensures,
    ) refl

pub returns-then-s-eq1 : goal.returns-then-s-eq1
unfolding form_of if
returns-then-s-eq1 c =
    let s = c.args.s.now in
    let t : cut_read (term_in s) ≡ unread = sym c.term_of-v.ensures ∙ ap value_view c.in_default.is in
    rw (
      no_symbol (symbol_of s) (number_of s) t,
      no_number (symbol_of s) (number_of s) t,
      sym c.register_of-r.ensures ∙ ap parsed_view c.in_default-r.is,
      eq-eqb _ 1 c.if-s-eq1.true,
    ) c.single_form.ensures

pub returns : goal.returns
unfolding form_of if
returns c =
    let s = c.args.s.now in
    let t : cut_read (term_in s) ≡ unread = sym c.term_of-v.ensures ∙ ap value_view c.in_default.is in
    rw (
      no_symbol (symbol_of s) (number_of s) t,
      no_number (symbol_of s) (number_of s) t,
      sym c.register_of-r.ensures ∙ ap parsed_view c.in_default-r.is,
      ne_eqb _ 1 c.if-s-eq1.false,
    ) c.marked_form.ensures
