-- `asm_draft::operands::declared` meets its contract: the class of an operation by its number.
use Rattle.asm_operations.proofs.Laws.{has-class}
use Rattle.ops.specs.Class.{marks, PRC}
use Rattle.asm_types.specs.Views.{operation_view}
use Rattle.base.specs.Test.{if}
use borrow.Author.Tests.{eq-eqb, ne_eqb}
use mathlib.Core.Path.{refl, sym, ◌∙◌}
use Rattle.asm_draft.proofs.operands.declared.Goals as goal

pub returns-then-class_of-ne-PRC : goal.returns-then-class_of-ne-PRC
unfolding if
returns-then-class_of-ne-PRC c = (rw (has-class (marks PRC) (operation_view c.args.c.operation) refl, ne_eqb _ 17 (λ e. c.if-class_of-ne-PRC.true (c.class_of.ensures ∙ e))) refl, tt)

pub returns : goal.returns
unfolding if
returns c = (rw (has-class (marks PRC) (operation_view c.args.c.operation) refl, eq-eqb _ 17 (sym c.class_of.ensures ∙ c.if-class_of-ne-PRC.false)) c.declared_count.ensures.0, c.declared_count.ensures.1)
