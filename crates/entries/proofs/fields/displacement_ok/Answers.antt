-- `entries::fields::displacement_ok` meets its contract: each return rewrites with the tests that led there.
use Rattle.base.specs.Test.{◌and◌}
use borrow.Author.Tests.{le-leb, lt-leb}
use mathlib.Core.Path.{refl}
use Rattle.entries.proofs.fields.displacement_ok.Goals as goal

pub returns-then-v-gt-CFP_M : goal.returns-then-v-gt-CFP_M
unfolding ◌and◌
returns-then-v-gt-CFP_M c = rw (lt-leb _ _ c.if-v-gt-CFP_M.true) refl

pub returns : goal.returns
unfolding ◌and◌
returns c = rw (le-leb _ _ c.if-v-gt-CFP_M.false) refl
