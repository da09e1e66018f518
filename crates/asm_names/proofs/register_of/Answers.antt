-- `asm_names::register_of` meets its contract: each return rewrites with the tests that led there.
use mathlib.Core.Path.{refl}
use borrow.Author.Tests.{eq-eqb, ne_eqb}
use Rattle.base.specs.Test.{◌and◌, if}
use Rattle.language.specs.Text.{register_of}
use Rattle.asm_names.proofs.register_of.Goals as goal

pub returns-then-s-ne2 : goal.returns-then-s-ne2
unfolding register_of if ◌and◌
returns-then-s-ne2 c = rw (ne_eqb _ 2 c.if-s-ne2.true) refl

pub returns-then-s-eq88 : goal.returns-then-s-eq88
unfolding register_of if ◌and◌
returns-then-s-eq88 c = rw (eq-eqb _ 2 c.if-s-ne2.false, c.if-s-eq88.true) c.x_register.ensures

pub returns-then-s-eq87 : goal.returns-then-s-eq87
unfolding register_of if ◌and◌
returns-then-s-eq87 c = rw (eq-eqb _ 2 c.if-s-ne2.false, c.if-s-eq87.true) c.w_register.ensures

pub returns : goal.returns
unfolding register_of if ◌and◌
returns c = rw (eq-eqb _ 2 c.if-s-ne2.false, ne_eqb _ 88 c.if-s-eq88.false, ne_eqb _ 87 c.if-s-eq87.false) refl
