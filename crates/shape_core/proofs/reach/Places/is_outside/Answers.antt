-- `shape_core::reach::is_outside` meets its contract: each return rewrites with the tests that led there.
use Rattle.rules.specs.Check.{outside}
use mathlib.Core.Path.{refl}
use Rattle.shape_core.proofs.reach.Places.is_outside.Goals as goal

pub returns : goal.returns
unfolding outside
returns c = rw (c.args.self.now.known.bodies c.args.p c.requires) refl
