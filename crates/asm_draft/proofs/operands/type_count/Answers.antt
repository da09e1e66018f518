-- `asm_draft::operands::type_count` meets its contract: by the class.
use Rattle.asm_operations.specs.Codes.{row_of}
use Rattle.asm_draft.proofs.Rows.{type-count}
use Rattle.asm_types.specs.Views.{operation_view}
use Rattle.base.specs.Test.{if}
use borrow.Author.Tests.{eq-eqb, ne_eqb}
use mathlib.Core.Path.{refl, sym, ◌∙◌}
use native.Mathlib.Omega.{arith}
use Rattle.asm_draft.proofs.operands.type_count.Goals as goal

pub returns-then-class_of-eq-PRC : goal.returns-then-class_of-eq-PRC
unfolding if
returns-then-class_of-eq-PRC c = (rw (type-count (row_of (operation_view c.args.o)).class, eq-eqb _ 17 (sym c.class_of.ensures ∙ c.if-class_of-eq-PRC.true)) refl, omega arith)

pub returns : goal.returns
unfolding if
returns c = (rw (type-count (row_of (operation_view c.args.o)).class, ne_eqb _ 17 (λ e. c.if-class_of-eq-PRC.false (c.class_of.ensures ∙ e))) refl, omega arith)
