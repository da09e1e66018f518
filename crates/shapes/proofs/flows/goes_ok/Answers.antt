-- `shapes::flows::goes_ok` meets its contract: each return rewrites with the tests that led there.
use Rattle.shapes.proofs.Rules.{goes-is}
use Rattle.table_layout.proofs.Belows.{and-true}
use mathlib.Core.Path.{sym, ◌∙◌}
use Rattle.shapes.proofs.flows.goes_ok.Goals as goal

pub returns : goal.returns
returns c = sym (and-true _ ∙ goes-is c.args.places.now.table.now c.args.p c.reaches.result c.reaches.ensures)
