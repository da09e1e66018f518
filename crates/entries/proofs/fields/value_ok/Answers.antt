-- `entries::fields::value_ok` meets its contract: each return rewrites with the tests that led there.
use Rattle.rules.specs.Table.{size, externals}
use Rattle.rules.specs.Check.{value_ok}
use Rattle.base.specs.Test.{if}
use borrow.Author.Tests.{eq-eqb, ne_eqb}
use mathlib.Core.Path.{refl}
use Rattle.entries.proofs.fields.value_ok.Goals as goal

pub returns-then-kind-eq-VALUE_KIND : goal.returns-then-kind-eq-VALUE_KIND
unfolding value_ok if
returns-then-kind-eq-VALUE_KIND c = rw (eq-eqb _ _ c.if-kind-eq-VALUE_KIND.true, ← c.largest.ensures) refl

pub returns-then-kind-eq-ADDRESS_KIND : goal.returns-then-kind-eq-ADDRESS_KIND
unfolding value_ok if
returns-then-kind-eq-ADDRESS_KIND c = rw (ne_eqb _ _ c.if-kind-eq-VALUE_KIND.false, eq-eqb _ _ c.if-kind-eq-ADDRESS_KIND.true) c.address_ok.ensures

pub returns-then-kind-eq-PLACE_KIND : goal.returns-then-kind-eq-PLACE_KIND
unfolding value_ok size if
returns-then-kind-eq-PLACE_KIND c = rw (ne_eqb _ _ c.if-kind-eq-VALUE_KIND.false, ne_eqb _ _ c.if-kind-eq-ADDRESS_KIND.false, eq-eqb _ _ c.if-kind-eq-PLACE_KIND.true) refl

pub returns-then-kind-eq-INDEXED_KIND : goal.returns-then-kind-eq-INDEXED_KIND
unfolding value_ok if
returns-then-kind-eq-INDEXED_KIND c = rw (ne_eqb _ _ c.if-kind-eq-VALUE_KIND.false, ne_eqb _ _ c.if-kind-eq-ADDRESS_KIND.false, ne_eqb _ _ c.if-kind-eq-PLACE_KIND.false, eq-eqb _ _ c.if-kind-eq-INDEXED_KIND.true) c.displacement_ok.ensures

pub returns-then-kind-eq-EXTERNAL_KIND : goal.returns-then-kind-eq-EXTERNAL_KIND
unfolding value_ok externals if
returns-then-kind-eq-EXTERNAL_KIND c = rw (ne_eqb _ _ c.if-kind-eq-VALUE_KIND.false, ne_eqb _ _ c.if-kind-eq-ADDRESS_KIND.false, ne_eqb _ _ c.if-kind-eq-PLACE_KIND.false, ne_eqb _ _ c.if-kind-eq-INDEXED_KIND.false, eq-eqb _ _ c.if-kind-eq-EXTERNAL_KIND.true) refl

pub returns : goal.returns
unfolding value_ok if
returns c = rw (ne_eqb _ _ c.if-kind-eq-VALUE_KIND.false, ne_eqb _ _ c.if-kind-eq-ADDRESS_KIND.false, ne_eqb _ _ c.if-kind-eq-PLACE_KIND.false, ne_eqb _ _ c.if-kind-eq-INDEXED_KIND.false, ne_eqb _ _ c.if-kind-eq-EXTERNAL_KIND.false) refl
