-- `asm_operations::formats::format_in` meets its contract: a procedure type moves the operand up.
use mathlib.Core.Path.{◌∙◌}
use borrow.Author.Tests.{eq-eqb, ne_eqb}
use Rattle.base.specs.Test.{if}
use Rattle.asm_operations.specs.Codes.{card_format}
use Rattle.asm_operations.proofs.formats.format_in.Goals as goal

pub returns-then-row-ne-PRC : goal.returns-then-row-ne-PRC
unfolding card_format if
returns-then-row-ne-PRC c = c.operand_format.ensures ∙ rw (ne_eqb _ 17 c.if-row-ne-PRC.true)

pub returns-then-i-eq0 : goal.returns-then-i-eq0
unfolding card_format if
returns-then-i-eq0 c = rw (eq-eqb _ 17 c.if-row-ne-PRC.false, eq-eqb _ 0 c.if-i-eq0.true)

pub returns : goal.returns
unfolding card_format if
returns c = c.operand_format-2.ensures ∙ rw (eq-eqb _ 17 c.if-row-ne-PRC.false, ne_eqb _ 0 c.if-i-eq0.false)
