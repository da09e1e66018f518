-- `host_words::restore_words` meets its contract: the table's check, then the room for a state, then restore's.
use Rattle.std.proofs.lemmas.Bool.{not_from_true}
use mathlib.Core.Path.{sym, ◌∙◌}
use Rattle.admission.proofs.Admits.{table-passed}
use Rattle.host_words.proofs.Freezes.{host-unwoken-table, host-unwoken-words, host-woken, host-unwoken}
use Rattle.host_words.proofs.restore_words.Goals as goal

pub returns-then-not-check_table : goal.returns-then-not-check_table
returns-then-not-check_table c = host-unwoken-table _ _ _ _ _ _ (sym c.check_table.ensures ∙ c.if-not-check_table.true) c.slice_known-1.given c.slice_known-2-1.given

pub returns-then-state-lt-WORDS : goal.returns-then-state-lt-WORDS
returns-then-state-lt-WORDS c = host-unwoken-words _ _ _ _ _ _ (sym c.check_table.ensures ∙ c.if-not-check_table.false) c.if-state-lt-WORDS.true c.slice_known-1.given c.slice_known-2-1.given

pub restore_checked-requires : goal.restore_checked-requires
restore_checked-requires c = table-passed _ _ c.check_table.ensures (not_from_true _ c.if-not-check_table.false)

pub returns-in-Ok : goal.returns-in-Ok
returns-in-Ok c =
    host-woken _ _ _ _ _ _ (sym c.check_table.ensures ∙ c.if-not-check_table.false)
    _ c.if-state-lt-WORDS.false _ (rw c.in-Ok.is at c.restore_checked.ensures) _ c.put_state.ensures c.type_inv.memory c.type_inv.state

pub returns-in-Err : goal.returns-in-Err
returns-in-Err c =
    host-unwoken _ _ _ _ _ _ (sym c.check_table.ensures ∙ c.if-not-check_table.false)
    _ c.if-state-lt-WORDS.false _ (rw c.in-Err.is at c.restore_checked.ensures) _ c.number_of.ensures c.type_inv.memory c.type_inv.state
