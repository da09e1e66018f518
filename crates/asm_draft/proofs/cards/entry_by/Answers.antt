-- `asm_draft::cards::entry_by` meets its contract: an operation has a row by its code.
use Rattle.asm_draft.proofs.Rows.{entry_row, entry-unread}
use Rattle.asm_types.specs.Views.{operation_view}
use mathlib.Core.Path.{◌∙◌}
use Rattle.asm_draft.proofs.cards.entry_by.Goals as goal

pub returns-then-code_of-ne-OPERATES : goal.returns-then-code_of-ne-OPERATES
returns-then-code_of-ne-OPERATES c = entry-unread (operation_view c.args.c.operation) _ c.code_of.ensures c.if-code_of-ne-OPERATES.true _ _

pub returns : goal.returns
returns c = c.row_entry.ensures ∙ entry_row (operation_view c.args.c.operation) _ c.code_of.ensures c.if-code_of-ne-OPERATES.false _ _
