-- `shapes::flows::brn_ok` meets its contract: each return rewrites with the tests that led there.
use Rattle.shapes.proofs.Rules.{must}
use Rattle.table_layout.proofs.Belows.{and-true}
use mathlib.Core.Path.{sym, ◌∙◌}
use Rattle.shapes.proofs.flows.brn_ok.Goals as goal

pub returns : goal.returns
returns c = sym (and-true _ ∙ must c.args.places.now.table.now c.args.p c.must_reach.result c.target_one-one.ensures c.must_reach.ensures)
