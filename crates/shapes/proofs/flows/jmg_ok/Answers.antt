-- `shapes::flows::jmg_ok` meets its contract: each return rewrites with the tests that led there.
use Rattle.shapes.proofs.Rules.{global}
use Rattle.table_layout.proofs.Belows.{and-true}
use mathlib.Core.Path.{sym, ◌∙◌}
use Rattle.shapes.proofs.flows.jmg_ok.Goals as goal

pub returns : goal.returns
returns c = sym (and-true _ ∙ global c.args.places.now.table.now c.args.p c.global_target.result c.target_one-one.ensures c.global_target.ensures)
