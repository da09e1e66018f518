-- `asm_names::index_register` meets its contract: each return rewrites with the tests that led there.
use mathlib.Core.Path.{refl, sym, ap, ◌∙◌}
use borrow.Author.Tests.{le-leb, lt-leb}
use Rattle.base.specs.Test.{if}
use Rattle.language.specs.Text.{only_index}
use Rattle.asm_types.specs.Views.{parsed_view}
use Rattle.asm_names.proofs.index_register.Goals as goal

pub returns-in_err-r : goal.returns-in_err-r
unfolding if
returns-in_err-r c = ap parsed_view c.from_residual.ensures ∙ sym (ap only_index (sym c.register_of.ensures ∙ ap parsed_view c.in_err-r.was))

pub returns-then-r : goal.returns-then-r
unfolding if
returns-then-r c = rw (sym c.register_of.ensures ∙ ap parsed_view c.in_ok-r.was, le-leb _ _ c.if-r.true) refl

pub returns : goal.returns
unfolding if
returns c = rw (sym c.register_of.ensures ∙ ap parsed_view c.in_ok-r.was, lt-leb _ _ c.if-r.false) refl
