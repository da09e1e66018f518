-- `asm_operands::operands::negative`: each return rewrites with the tests that led there.
use mathlib.Core.Path.{◌∙◌, refl}
use borrow.Author.Tests.{le-leb, lt-leb}
use Rattle.base.specs.Test.{if}
use Rattle.language.specs.Operand.{signed_within}
use Rattle.asm_operands.proofs.operands.negative.Goals as goal

pub returns-then-v : goal.returns-then-v
unfolding signed_within if
returns-then-v c = rw (lt-leb _ _ c.if-v.true) refl

pub returns : goal.returns
unfolding signed_within if
returns c = c.value_of.ensures ∙ rw (c.sub.ensures, c.narrow.ensures, le-leb _ _ c.if-v.false) refl
