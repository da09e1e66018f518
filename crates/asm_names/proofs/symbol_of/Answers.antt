-- `asm_names::symbol_of` meets its contract: each return rewrites with the tests that led there.
use mathlib.Core.Path.{refl, sym, ◌∙◌}
use borrow.Author.Tests.{eq-eqb, ne_eqb}
use Rattle.base.specs.Test.{◌and◌, if}
use Rattle.language.specs.Text.{symbol_of}
use Rattle.asm_names.proofs.symbol_of.Goals as goal

pub returns-then-s-ne-NAME : goal.returns-then-s-ne-NAME
unfolding symbol_of if ◌and◌
returns-then-s-ne-NAME c = rw (ne_eqb _ 5 c.if-s-ne-NAME.true) refl

pub returns-then-not-is_letter : goal.returns-then-not-is_letter
unfolding symbol_of if ◌and◌
returns-then-not-is_letter c = rw (eq-eqb _ 5 c.if-s-ne-NAME.false, sym c.is_letter.ensures ∙ c.if-not-is_letter.true) refl

pub returns-then-not-later_in_name : goal.returns-then-not-later_in_name
unfolding symbol_of if ◌and◌
returns-then-not-later_in_name c = rw (eq-eqb _ 5 c.if-s-ne-NAME.false, sym c.is_letter.ensures ∙ c.if-not-is_letter.false, sym c.later_in_name.ensures ∙ c.if-not-later_in_name.true) refl

pub returns : goal.returns
unfolding symbol_of if ◌and◌
returns c =
    rw (
      eq-eqb _ 5 c.if-s-ne-NAME.false,
      sym c.is_letter.ensures ∙ c.if-not-is_letter.false,
      sym c.later_in_name.ensures ∙ c.if-not-later_in_name.false,
      c.pack_name.ensures,
    ) refl
