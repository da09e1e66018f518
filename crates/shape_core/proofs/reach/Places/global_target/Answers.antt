-- `shape_core::reach::global_target` meets its contract: each return rewrites with the tests that led there.
use Rattle.shape_core.proofs.Codes.{global-none, global-some}
use mathlib.Core.Path.{◌∙◌}
use Rattle.shape_core.proofs.reach.Places.global_target.Goals as goal

pub returns-then-x-eq0 : goal.returns-then-x-eq0
returns-then-x-eq0 c = global-none c.args.self.now.table.now c.args.x c.if-x-eq0.true

pub returns : goal.returns
returns c = c.enters_outside.ensures ∙ global-some c.args.self.now.table.now c.args.x c.if-x-eq0.false
