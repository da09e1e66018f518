-- `asm_names::x_register` meets its contract: each return rewrites with the tests that led there.
use mathlib.Core.Path.{refl}
use borrow.Author.Tests.{ne_eqb}
use Rattle.base.specs.Test.{◌and◌, if}
use Rattle.asm_names.proofs.x_register.Goals as goal

pub returns-in-76 : goal.returns-in-76
unfolding if ◌and◌
returns-in-76 c = rw c.in-76.is refl

pub returns-in-82 : goal.returns-in-82
unfolding if ◌and◌
returns-in-82 c = rw c.in-82.is refl

pub returns-in-83 : goal.returns-in-83
unfolding if ◌and◌
returns-in-83 c = rw c.in-83.is refl

pub returns-in-84 : goal.returns-in-84
unfolding if ◌and◌
returns-in-84 c = rw c.in-84.is refl

pub returns-in_default : goal.returns-in_default
unfolding if ◌and◌
returns-in_default c =
    let r = c.in_default.in_default-own.rest in
    rw (ne_eqb _ _ r.0.0.0.1, ne_eqb _ _ r.0.0.1, ne_eqb _ _ r.0.1, ne_eqb _ _ r.1) refl
