-- `asm_forms::operand::bracket_form` meets its contract: each return rewrites with the tests that led there.
use mathlib.Core.Path.{refl, sym, ap, ◌∙◌}
use borrow.Author.Tests.{eq-eqb, ne_eqb}
use Rattle.base.specs.Test.{if}
use Rattle.language.specs.Text.{byte}
use Rattle.language.specs.Form.{marked_form}
use Rattle.asm_types.specs.Views.{parsed_view}
use Rattle.asm_forms.proofs.Forms.{index-in-le}
use Rattle.asm_forms.proofs.operand.bracket_form.Goals as goal

pub narrow-requires : goal.narrow-requires
narrow-requires c = index-in-le c.args.s.now 4 _ (sym c.index_in-r.ensures ∙ ap parsed_view c.in-Some.is)

pub returns-in-Some : goal.returns-in-Some
unfolding marked_form if
returns-in-Some c = rw (sym c.index_in-r.ensures ∙ ap parsed_view c.in-Some.is, c.requires, c.narrow.ensures) refl

pub returns-then-byte_at-ne43 : goal.returns-then-byte_at-ne43
unfolding marked_form if
returns-then-byte_at-ne43 c =
    rw (
      sym c.index_in-r.ensures ∙ ap parsed_view c.in_default.is,
      c.requires,
      ne_eqb _ (byte "+") (λ e. c.if-byte_at-ne43.true (c.byte_at.ensures ∙ e)),
    ) refl

pub returns-in_default-q : goal.returns-in_default-q
unfolding marked_form if
returns-in_default-q c =
    rw (
      sym c.index_in-r.ensures ∙ ap parsed_view c.in_default.is,
      sym c.index_in-q.ensures ∙ ap parsed_view c.in_default-q.is,
      c.requires,
      eq-eqb _ (byte "+") (sym c.byte_at.ensures ∙ c.if-byte_at-ne43.false),
    ) refl

pub narrow-requires-2 : goal.narrow-requires-2
narrow-requires-2 c = index-in-le c.args.s.now 5 _ (sym c.index_in-q.ensures ∙ ap parsed_view c.in-Some-q.is)

pub returns : goal.returns
unfolding marked_form if
returns c =
    rw (
      sym c.index_in-r.ensures ∙ ap parsed_view c.in_default.is,
      sym c.index_in-q.ensures ∙ ap parsed_view c.in-Some-q.is,
      c.requires,
      eq-eqb _ (byte "+") (sym c.byte_at.ensures ∙ c.if-byte_at-ne43.false),
      c.narrow-2.ensures,
    ) refl
