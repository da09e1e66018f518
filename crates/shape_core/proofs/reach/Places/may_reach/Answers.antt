-- `shape_core::reach::may_reach` meets its contract: each return rewrites with the tests that led there.
use Rattle.shape_core.proofs.Codes.{may_none, may-some}
use mathlib.Core.Path.{◌∙◌}
use Rattle.shape_core.proofs.reach.Places.may_reach.Goals as goal

pub returns-then-x-eq0 : goal.returns-then-x-eq0
returns-then-x-eq0 c = may_none c.args.self.now.table.now c.args.p c.args.x c.if-x-eq0.true

pub returns : goal.returns
returns c = c.reaches.ensures ∙ may-some c.args.self.now.table.now c.args.p c.args.x c.if-x-eq0.false
