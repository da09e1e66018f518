-- `entries::fields::register_ok` meets its contract: each return rewrites with the tests that led there.
use Rattle.rules.specs.Check.{register_ok}
use Rattle.base.specs.Test.{if}
use borrow.Author.Tests.{eq-eqb, ne_eqb}
use mathlib.Core.Path.{refl}
use Rattle.entries.proofs.fields.register_ok.Goals as goal

pub returns-then-names_x : goal.returns-then-names_x
unfolding register_ok if
returns-then-names_x c = rw (← c.names_x.ensures, c.if-names_x.true, ← c.last_x.ensures) c.within.ensures

pub returns-then-kind-eq-W_KIND : goal.returns-then-kind-eq-W_KIND
unfolding register_ok if
returns-then-kind-eq-W_KIND c = rw (← c.names_x.ensures, c.if-names_x.false, eq-eqb _ _ c.if-kind-eq-W_KIND.true) c.within-then-kind-eq-W_KIND.ensures

pub returns : goal.returns
unfolding register_ok if
returns c = rw (← c.names_x.ensures, c.if-names_x.false, ne_eqb _ _ c.if-kind-eq-W_KIND.false) refl
