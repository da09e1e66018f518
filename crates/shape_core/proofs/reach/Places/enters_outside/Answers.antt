-- `shape_core::reach::enters_outside` meets its contract: each return rewrites with the tests that led there.
use Rattle.rules.specs.Check.{is_outside, outside}
use Rattle.shape_core.proofs.reach.Places.enters_outside.Goals as goal

pub returns : goal.returns
unfolding is_outside outside
returns c = c.enters.ensures
