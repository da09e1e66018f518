-- `entries::fields::names_x` meets its contract: each return rewrites with the tests that led there.
use Rattle.base.specs.Test.{◌or◌}
use borrow.Author.Tests.{eq-eqb, ne_eqb}
use mathlib.Core.Path.{refl}
use Rattle.entries.proofs.fields.names_x.Goals as goal

pub returns-then-kind-eq-X_KIND : goal.returns-then-kind-eq-X_KIND
unfolding ◌or◌
returns-then-kind-eq-X_KIND c = rw (eq-eqb _ _ c.if-kind-eq-X_KIND.true) refl

pub returns : goal.returns
unfolding ◌or◌
returns c = rw (ne_eqb _ _ c.if-kind-eq-X_KIND.false) c.within.ensures
