-- `asm_values::formats::last_x`: each return rewrites with the tests that led there.
use mathlib.Core.Path.{refl}
use borrow.Author.Tests.{eq-eqb, le-leb, lt-leb, ne_eqb}
use Rattle.base.specs.Test.{if}
use Rattle.asm_values.specs.Read.{last_of}
use Rattle.asm_values.proofs.formats.last_x.Goals as goal

pub returns-then-tag-eq-OPC_TAG : goal.returns-then-tag-eq-OPC_TAG
unfolding last_of if
returns-then-tag-eq-OPC_TAG c = rw (eq-eqb _ _ c.if-tag-eq-OPC_TAG.true) refl

pub returns-then-tag-ge-PTYP_TAG : goal.returns-then-tag-ge-PTYP_TAG
unfolding last_of if
returns-then-tag-ge-PTYP_TAG c = rw (ne_eqb _ _ c.if-tag-eq-OPC_TAG.false, le-leb _ _ c.if-tag-ge-PTYP_TAG.true) refl

pub returns : goal.returns
unfolding last_of if
returns c = rw (ne_eqb _ _ c.if-tag-eq-OPC_TAG.false, lt-leb _ _ c.if-tag-ge-PTYP_TAG.false) refl
