-- `shapes::cards::iff_ok` meets its contract: each return rewrites with the tests that led there.
use Rattle.shape_core.proofs.Tests.{and_no, and_yes}
use Rattle.shapes.proofs.Rules.{must}
use Rattle.table_layout.proofs.Belows.{and-true}
use mathlib.Core.Path.{sym, ◌∙◌}
use Rattle.shapes.proofs.cards.iff_ok.Goals as goal

pub returns-then-not-below_iff : goal.returns-then-not-below_iff
returns-then-not-below_iff c = sym (and_no _ _ (sym c.below_iff.ensures ∙ c.if-not-below_iff.true))

pub returns : goal.returns
returns c = sym (and_yes _ _ (sym c.below_iff.ensures ∙ c.if-not-below_iff.false) ∙ and-true _ ∙ must c.args.places.now.table.now c.args.p c.must_reach.result c.target_two-two.ensures c.must_reach.ensures)
