-- `entries::fields::largest` meets its contract: each return rewrites with the tests that led there.
use Rattle.entries.specs.Coded.{largest_of}
use Rattle.base.specs.Test.{if}
use borrow.Author.Tests.{eq-eqb, ne_eqb}
use mathlib.Core.Path.{refl}
use Rattle.entries.proofs.fields.largest.Goals as goal

pub returns-then-word-eq-SHIFT_TAG : goal.returns-then-word-eq-SHIFT_TAG
unfolding largest_of if
returns-then-word-eq-SHIFT_TAG c = rw (eq-eqb _ _ c.if-word-eq-SHIFT_TAG.true) refl

pub returns : goal.returns
unfolding largest_of if
returns c = rw (ne_eqb _ _ c.if-word-eq-SHIFT_TAG.false) refl
