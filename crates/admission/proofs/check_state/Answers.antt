-- `admission::check_state` meets its contract: the table's check first, then the state's. Assumes nothing.
use Rattle.std.proofs.lemmas.Bool.{not_from_false, not_from_true}
use Rattle.admission.proofs.Admits.{table-passed, admit-no-table, admit-granted, admit-no-state}
use Rattle.admission.proofs.check_state.Goals as goal

pub returns-then-not-check_table : goal.returns-then-not-check_table
returns-then-not-check_table c = λ mem e. admit-no-table _ _ _ c.check_table.ensures (not_from_false _ c.if-not-check_table.true)

pub state_ok-requires : goal.state_ok-requires
state_ok-requires c = table-passed _ _ c.check_table.ensures (not_from_true _ c.if-not-check_table.false)

pub returns-then-state_ok : goal.returns-then-state_ok
returns-then-state_ok c = λ mem e. admit-granted _ _ _ _ c.check_table.ensures (not_from_true _ c.if-not-check_table.false) (c.state_ok.ensures mem e) c.if-state_ok.true

pub returns : goal.returns
returns c = λ mem e. admit-no-state _ _ _ _ c.check_table.ensures (not_from_true _ c.if-not-check_table.false) (c.state_ok.ensures mem e) c.if-state_ok.false
