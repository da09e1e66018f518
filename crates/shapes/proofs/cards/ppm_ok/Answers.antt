-- `shapes::cards::ppm_ok` meets its contract: each return rewrites with the tests that led there.
use Rattle.shape_core.proofs.Tests.{and_no, and_yes}
use Rattle.shapes.proofs.Rules.{may}
use Rattle.table_layout.proofs.Belows.{and-true}
use mathlib.Core.Path.{sym, ◌∙◌}
use Rattle.shapes.proofs.cards.ppm_ok.Goals as goal

pub returns-then-not-below_exit : goal.returns-then-not-below_exit
returns-then-not-below_exit c = sym (and_no _ _ (sym c.below_exit.ensures ∙ c.if-not-below_exit.true))

pub returns : goal.returns
returns c = sym (and_yes _ _ (sym c.below_exit.ensures ∙ c.if-not-below_exit.false) ∙ and-true _ ∙ may c.args.places.now.table.now c.args.p c.may_reach.result c.target_one-one.ensures c.may_reach.ensures)
