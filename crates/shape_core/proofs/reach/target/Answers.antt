-- `shape_core::reach::target` meets its contract: each return rewrites with the tests that led there.
use Rattle.shape_core.specs.Known.{target_of}
use native.Mathlib.Numerals.{add-one}
use Rattle.base.specs.Test.{if}
use borrow.Author.Tests.{eq-eqb, ne_eqb}
use mathlib.Core.Path.{refl}
use Rattle.shape_core.proofs.reach.target.Goals as goal

pub returns-then-kind-ne-PLACE_KIND : goal.returns-then-kind-ne-PLACE_KIND
unfolding target_of if
returns-then-kind-ne-PLACE_KIND c = rw (ne_eqb _ _ c.if-kind-ne-PLACE_KIND.true) refl

pub returns : goal.returns
unfolding target_of if
returns c = rw (eq-eqb _ _ c.if-kind-ne-PLACE_KIND.false) (add-one c.args.v)
