-- `shape_core::reach::reaches` meets its contract: each return rewrites with the tests that led there.
use Rattle.rules.specs.Check.{reaches}
use mathlib.Core.Path.{refl, ◌∙◌}
use Rattle.shape_core.proofs.reach.Places.reaches.Goals as goal

pub returns : goal.returns
unfolding reaches
returns c = c.enters.ensures ∙ rw (c.args.self.now.known.bodies c.args.p c.requires) refl
