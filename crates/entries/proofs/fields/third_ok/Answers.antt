-- `entries::fields::third_ok` meets its contract: each return rewrites with the tests that led there.
use Rattle.entries.specs.Coded.{third_by}
use Rattle.rules.specs.Table.{size}
use Rattle.base.specs.Test.{◌and◌, if}
use borrow.Author.Tests.{eq-eqb, ne_eqb}
use mathlib.Core.Path.{refl}
use Rattle.entries.proofs.fields.third_ok.Goals as goal

pub returns-then-x-eq0 : goal.returns-then-x-eq0
unfolding third_by if
returns-then-x-eq0 c = rw (eq-eqb _ _ c.if-x-eq0.true) c.takes.ensures

pub returns-then-not-takes : goal.returns-then-not-takes
unfolding third_by if ◌and◌
returns-then-not-takes c = rw (ne_eqb _ _ c.if-x-eq0.false, ← c.takes-2.ensures, c.if-not-takes.true) refl

pub returns : goal.returns
unfolding third_by size if ◌and◌
returns c = rw (ne_eqb _ _ c.if-x-eq0.false, ← c.takes-2.ensures, c.if-not-takes.false) refl
