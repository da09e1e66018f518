-- `shape_switch::switch::bsw_ok` meets its contract: each return rewrites with the tests that led there.
use Rattle.shape_core.specs.Counted.{list_ok}
use Rattle.shape_core.proofs.Tests.{and_no, and_yes}
use Rattle.table_layout.proofs.Belows.{and-true}
use mathlib.Core.Path.{sym, ◌∙◌}
use Rattle.shape_switch.proofs.switch.bsw_ok.Goals as goal

pub returns-then-not-list_ok : goal.returns-then-not-list_ok
unfolding list_ok
returns-then-not-list_ok c = sym (and_no _ _ (sym c.list_ok.ensures ∙ c.if-not-list_ok.true))

pub returns : goal.returns
unfolding list_ok
returns c = c.default_ok.ensures ∙ sym (and_yes _ _ (sym c.list_ok.ensures ∙ c.if-not-list_ok.false) ∙ and-true _)
