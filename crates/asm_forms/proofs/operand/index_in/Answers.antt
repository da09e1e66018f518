-- `asm_forms::operand::index_in` meets its contract: each return rewrites with the tests that led there.
use mathlib.Core.Path.{refl}
use borrow.Author.Tests.{eq-eqb, ne_eqb}
use Rattle.base.specs.Test.{◌and◌, if}
use Rattle.language.specs.Text.{byte}
use Rattle.asm_forms.proofs.operand.index_in.Goals as goal

pub returns-then-s-n : goal.returns-then-s-n
unfolding if ◌and◌
returns-then-s-n c = rw (ne_eqb _ _ c.if-s-n.true) refl

pub returns-then-s-ne40 : goal.returns-then-s-ne40
unfolding if ◌and◌
returns-then-s-ne40 c = rw (eq-eqb _ _ c.if-s-n.false, ne_eqb _ (byte "(") c.if-s-ne40.true) refl

pub returns-then-s-ne41 : goal.returns-then-s-ne41
unfolding if ◌and◌
returns-then-s-ne41 c = rw (eq-eqb _ _ c.if-s-n.false, eq-eqb _ (byte "(") c.if-s-ne40.false, ne_eqb _ (byte ")") c.if-s-ne41.true) refl

pub returns : goal.returns
unfolding if ◌and◌
returns c = rw (eq-eqb _ _ c.if-s-n.false, eq-eqb _ (byte "(") c.if-s-ne40.false, eq-eqb _ (byte ")") c.if-s-ne41.false) c.index_register.ensures
