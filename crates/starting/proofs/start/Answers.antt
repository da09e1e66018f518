-- `starting::start` meets its contract: 30, 10, 43, or the program begins.
use mathlib.Core.Path.{refl, sym, ◌∙◌}
use native.Mathlib.Omega.{arith}
use Rattle.base.proofs.Bool.{true-ok}
use Rattle.loading.proofs.Sizes.{sizes}
use Rattle.rules.proofs.Starts.{own-fits}
use Rattle.starting.proofs.Starting.{refuses-table, refuses-memory, refuses-supply, begins}
use Rattle.starting.proofs.start.Goals as goal

pub returns-then-not-check_table : goal.returns-then-not-check_table
returns-then-not-check_table c = refuses-table _ _ _ _ _ _ (sym c.check_table.ensures ∙ c.if-not-check_table.true) refl

pub memory_fits-requires : goal.memory_fits-requires
memory_fits-requires c = omega (arith, sizes _ (true-ok _ (sym c.check_table.ensures ∙ c.if-not-check_table.false)))

pub returns-then-not-memory_fits : goal.returns-then-not-memory_fits
returns-then-not-memory_fits c = refuses-memory _ _ _ _ _ _ (sym c.check_table.ensures ∙ c.if-not-check_table.false) (sym c.memory_fits.ensures ∙ c.if-not-memory_fits.true) refl

pub fresh_count-requires : goal.fresh_count-requires
fresh_count-requires c = true-ok _ (sym c.check_table.ensures ∙ c.if-not-check_table.false)

pub returns-then-fresh-fresh_count : goal.returns-then-fresh-fresh_count
returns-then-fresh-fresh_count c = refuses-supply _ _ _ _ _ _ (sym c.check_table.ensures ∙ c.if-not-check_table.false) (sym c.memory_fits.ensures ∙ c.if-not-memory_fits.false) (rw c.fresh_count.ensures at c.if-fresh-fresh_count.true) refl

pub kept-from-requires : goal.kept-from-requires
kept-from-requires c = true-ok _ (sym c.check_table.ensures ∙ c.if-not-check_table.false)

pub load-requires : goal.load-requires
load-requires c = (true-ok _ (sym c.check_table.ensures ∙ c.if-not-check_table.false), own-fits _ _ (true-ok _ (sym c.memory_fits.ensures ∙ c.if-not-memory_fits.false)), c.if-fresh-fresh_count.false ∙ c.fresh_count.ensures)

pub fresh-state-requires : goal.fresh-state-requires
fresh-state-requires c = (true-ok _ (sym c.check_table.ensures ∙ c.if-not-check_table.false), rw (c.clear.auto.memory, c.load.auto.memory) (true-ok _ (sym c.memory_fits.ensures ∙ c.if-not-memory_fits.false)))

pub returns : goal.returns
returns c = begins _ _ _ _ _ _ (sym c.check_table.ensures ∙ c.if-not-check_table.false) (sym c.memory_fits.ensures ∙ c.if-not-memory_fits.false) _ _ (c.if-fresh-fresh_count.false ∙ c.fresh_count.ensures) (rw (c.fresh-state.ensures, c.clear.auto.memory, c.load.auto.memory)) c.kept-from.ensures (c.clear.ensures ∙ rw c.load.ensures)
