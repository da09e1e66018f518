-- `asm_values::values::displaced_bytes`: each return rewrites with the tests that led there.
use mathlib.Core.Path.{◌∙◌, refl, sym}
use borrow.Author.Tests.{le-leb, lt-leb}
use Rattle.base.specs.Test.{if}
use Rattle.language.specs.Operand.{displaced}
use Rattle.asm_values.proofs.values.displaced_bytes.Goals as goal

pub returns-then-v-gt-CFP_M : goal.returns-then-v-gt-CFP_M
unfolding displaced if
returns-then-v-gt-CFP_M c = rw (lt-leb _ _ c.if-v-gt-CFP_M.true) refl

pub returns : goal.returns
unfolding displaced if
returns c = c.gives.ensures ∙ sym (rw (le-leb _ _ c.if-v-gt-CFP_M.false) refl)
