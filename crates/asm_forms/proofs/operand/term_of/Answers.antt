-- `asm_forms::operand::term_of` meets its contract: each return rewrites with the tests that led there.
use mathlib.Core.Path.{refl, sym, ap, ◌∙◌}
use Rattle.language.specs.Text.{number_of}
use Rattle.asm_types.specs.Views.{parsed_view}
use Rattle.asm_forms.proofs.Forms.{no_cut, number_read}
use Rattle.asm_forms.proofs.operand.term_of.Goals as goal

pub returns-in-Some : goal.returns-in-Some
returns-in-Some c = rw (sym c.symbol_of-k.ensures ∙ ap parsed_view c.in-Some.is) refl

pub returns-in_err-n : goal.returns-in_err-n
returns-in_err-n c =
    rw (
      c.from_residual.ensures,
      sym c.symbol_of-k.ensures ∙ ap parsed_view c.in_default.is,
      no_cut (number_of c.args.s.now) (sym c.number_of.ensures ∙ ap parsed_view c.in_err-n.was),
    ) refl

pub returns : goal.returns
returns c =
    rw (sym c.symbol_of-k.ensures ∙ ap parsed_view c.in_default.is)
    (number_read (number_of c.args.s.now) _ (sym c.number_of.ensures ∙ ap parsed_view c.in_ok-n.was))
