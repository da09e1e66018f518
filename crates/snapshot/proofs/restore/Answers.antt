-- `snapshot::restore` meets its contract: 30, or what restore does with a checked table.
use mathlib.Core.Path.{refl, sym, ◌∙◌}
use Rattle.base.proofs.Bool.{true-ok}
use Rattle.snapshot.proofs.Wakings.{refuses-table}
use Rattle.snapshot.proofs.restore.Goals as goal

pub returns-then-not-check_table : goal.returns-then-not-check_table
returns-then-not-check_table c = refuses-table _ _ _ _ _ _ (sym c.check_table.ensures ∙ c.if-not-check_table.true) refl

pub restore_checked-requires : goal.restore_checked-requires
restore_checked-requires c = true-ok _ (sym c.check_table.ensures ∙ c.if-not-check_table.false)
