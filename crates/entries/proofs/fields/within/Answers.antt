-- `entries::fields::within` meets its contract: each return rewrites with the tests that led there.
use Rattle.rules.specs.Check.{among}
use Rattle.base.specs.Test.{◌and◌}
use borrow.Author.Tests.{le-leb, lt-leb}
use mathlib.Core.Path.{refl}
use Rattle.entries.proofs.fields.within.Goals as goal

pub returns-then-x-lo : goal.returns-then-x-lo
unfolding among ◌and◌
returns-then-x-lo c = rw (lt-leb _ _ c.if-x-lo.true) refl

pub returns : goal.returns
unfolding among ◌and◌
returns c = rw (le-leb _ _ c.if-x-lo.false) refl
