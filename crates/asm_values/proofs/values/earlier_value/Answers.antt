-- `asm_values::values::earlier_value`: each return rewrites with the tests that led there.
use mathlib.Core.Path.{◌∙◌, refl, sym}
use borrow.Author.Tests.{le-ltb, lt-ltb}
use Rattle.base.specs.Test.{if}
use Rattle.asm_values.proofs.values.earlier_value.Goals as goal

pub returns-then-e-line : goal.returns-then-e-line
unfolding if
returns-then-e-line c = c.value_within.ensures ∙ sym (rw (lt-ltb _ _ c.if-e-line.true) refl)

pub returns : goal.returns
unfolding if
returns c = rw (le-ltb _ _ c.if-e-line.false) refl
