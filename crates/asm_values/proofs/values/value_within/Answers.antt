-- `asm_values::values::value_within`: each return rewrites with the tests that led there.
use mathlib.Core.Path.{◌∙◌, refl, sym}
use borrow.Author.Tests.{le-leb, lt-leb}
use Rattle.base.specs.Test.{if}
use Rattle.language.specs.Operand.{value_within}
use Rattle.asm_values.proofs.values.value_within.Goals as goal

pub returns-then-limit-v : goal.returns-then-limit-v
unfolding value_within if
returns-then-limit-v c = rw (lt-leb _ _ c.if-limit-v.true) refl

pub returns : goal.returns
unfolding value_within if
returns c = c.gives.ensures ∙ sym (rw (le-leb _ _ c.if-limit-v.false) refl)
