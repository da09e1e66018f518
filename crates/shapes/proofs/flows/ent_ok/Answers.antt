-- `shapes::flows::ent_ok` meets its contract: each return rewrites with the tests that led there.
use Rattle.shape_core.proofs.Tests.{and_no, and_yes}
use Rattle.shapes.proofs.Rules.{goes-is}
use Rattle.table_layout.proofs.Belows.{and-true}
use mathlib.Core.Path.{sym, ◌∙◌}
use Rattle.shapes.proofs.flows.ent_ok.Goals as goal

pub returns-then-not-reaches : goal.returns-then-not-reaches
returns-then-not-reaches c = sym (and_no _ _ (goes-is c.args.places.now.table.now c.args.p c.reaches.result c.reaches.ensures ∙ c.if-not-reaches.true))

pub returns : goal.returns
returns c = sym (and_yes _ _ (goes-is c.args.places.now.table.now c.args.p c.reaches.result c.reaches.ensures ∙ c.if-not-reaches.false) ∙ and-true _ ∙ sym c.is_outside.ensures)
