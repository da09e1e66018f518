-- `entries::fields::is_apart` meets its contract: each return rewrites with the tests that led there.
use Rattle.table_layout.proofs.Belows.{and-false, and-true}
use Rattle.rules.specs.Check.{apart}
use Rattle.base.specs.Test.{◌and◌, ◌or◌}
use borrow.Author.Tests.{eq-eqb, ne_eqb}
use mathlib.Core.Path.{refl}
use Rattle.entries.proofs.fields.is_apart.Goals as goal

pub returns-then-reg-other : goal.returns-then-reg-other
unfolding apart
returns-then-reg-other c = rw (ne_eqb _ _ c.if-reg-other.true, and-false) refl

pub returns-then-within : goal.returns-then-within
unfolding apart ◌and◌ ◌or◌
returns-then-within c = rw (← c.within.ensures, c.if-within.true, eq-eqb _ _ c.if-reg-other.false) refl

pub returns : goal.returns
unfolding apart ◌or◌
returns c = rw (← c.within.ensures, c.if-within.false, eq-eqb _ _ c.if-reg-other.false, and-true, ← c.within-2.ensures) refl
