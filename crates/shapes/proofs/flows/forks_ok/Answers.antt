-- `shapes::flows::forks_ok` meets its contract: each return rewrites with the tests that led there.
use Rattle.shape_core.proofs.Tests.{and_no, and_yes}
use Rattle.shapes.proofs.Rules.{goes-is, may, may3}
use Rattle.table_layout.proofs.Belows.{and-true}
use mathlib.Core.Path.{sym, ◌∙◌}
use Rattle.shapes.proofs.flows.forks_ok.Goals as goal

pub returns-then-not-reaches : goal.returns-then-not-reaches
returns-then-not-reaches c = sym (and_no _ _ (goes-is c.args.places.now.table.now c.args.p c.reaches.result c.reaches.ensures ∙ c.if-not-reaches.true))

pub returns-then-not-may_reach : goal.returns-then-not-may_reach
returns-then-not-may_reach c = sym (and_yes _ _ (goes-is c.args.places.now.table.now c.args.p c.reaches.result c.reaches.ensures ∙ c.if-not-reaches.false) ∙ and_no _ _ (may c.args.places.now.table.now c.args.p c.may_reach.result c.target_one-one.ensures c.may_reach.ensures ∙ c.if-not-may_reach.true))

pub returns-then-not-may_reach-2 : goal.returns-then-not-may_reach-2
returns-then-not-may_reach-2 c = sym (and_yes _ _ (goes-is c.args.places.now.table.now c.args.p c.reaches.result c.reaches.ensures ∙ c.if-not-reaches.false) ∙ and_yes _ _ (may c.args.places.now.table.now c.args.p c.may_reach.result c.target_one-one.ensures c.may_reach.ensures ∙ c.if-not-may_reach.false) ∙ and_no _ _ (may c.args.places.now.table.now c.args.p c.may_reach-2.result c.target_two-two.ensures c.may_reach-2.ensures ∙ c.if-not-may_reach-2.true))

pub returns : goal.returns
returns c = sym (and_yes _ _ (goes-is c.args.places.now.table.now c.args.p c.reaches.result c.reaches.ensures ∙ c.if-not-reaches.false) ∙ and_yes _ _ (may c.args.places.now.table.now c.args.p c.may_reach.result c.target_one-one.ensures c.may_reach.ensures ∙ c.if-not-may_reach.false) ∙ and_yes _ _ (may c.args.places.now.table.now c.args.p c.may_reach-2.result c.target_two-two.ensures c.may_reach-2.ensures ∙ c.if-not-may_reach-2.false) ∙ and-true _ ∙ may3 c.args.places.now.table.now c.args.p c.may_reach-3.result (c.index-three.ensures ∙ c.word.ensures) c.may_reach-3.ensures)
