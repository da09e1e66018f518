-- `shape_core::reach::must_reach` meets its contract: each return rewrites with the tests that led there.
use Rattle.shape_core.proofs.Codes.{must-none, must-some}
use mathlib.Core.Path.{◌∙◌}
use Rattle.shape_core.proofs.reach.Places.must_reach.Goals as goal

pub returns-then-x-eq0 : goal.returns-then-x-eq0
returns-then-x-eq0 c = must-none c.args.self.now.table.now c.args.p c.args.x c.if-x-eq0.true

pub returns : goal.returns
returns c = c.reaches.ensures ∙ must-some c.args.self.now.table.now c.args.p c.args.x c.if-x-eq0.false
