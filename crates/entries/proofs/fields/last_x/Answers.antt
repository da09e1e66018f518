-- `entries::fields::last_x` meets its contract: each return rewrites with the tests that led there.
use Rattle.entries.specs.Coded.{last_of}
use Rattle.base.specs.Test.{if}
use borrow.Author.Tests.{eq-eqb, ne_eqb}
use mathlib.Core.Path.{refl}
use Rattle.entries.proofs.fields.last_x.Goals as goal

pub returns-then-word-eq-OPC_TAG : goal.returns-then-word-eq-OPC_TAG
unfolding last_of if
returns-then-word-eq-OPC_TAG c = rw (eq-eqb _ _ c.if-word-eq-OPC_TAG.true) refl

pub returns : goal.returns
unfolding last_of if
returns c = rw (ne_eqb _ _ c.if-word-eq-OPC_TAG.false) refl
