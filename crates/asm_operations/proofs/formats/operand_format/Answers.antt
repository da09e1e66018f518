-- `asm_operations::formats::operand_format` meets its contract: a cell, or none past the third.
use Rattle.asm_operations.specs.Codes.{operand_format}
use Rattle.base.specs.Test.{if}
use borrow.Author.Tests.{le-leb, lt-leb}
use mathlib.Core.Path.{◌∙◌}
use Rattle.asm_operations.proofs.formats.operand_format.Goals as goal

pub returns-then-i-ge3 : goal.returns-then-i-ge3
unfolding operand_format if
returns-then-i-ge3 c = rw (le-leb 3 _ c.if-i-ge3.true)

pub returns : goal.returns
unfolding operand_format if
returns c = c.code_word.ensures ∙ rw (lt-leb 3 _ c.if-i-ge3.false)
