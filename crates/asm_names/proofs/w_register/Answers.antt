-- `asm_names::w_register` meets its contract: each return rewrites with the tests that led there.
use mathlib.Core.Path.{refl}
use borrow.Author.Tests.{ne_eqb}
use Rattle.base.specs.Test.{◌and◌, if}
use Rattle.asm_names.proofs.w_register.Goals as goal

pub returns-in-65 : goal.returns-in-65
unfolding if ◌and◌
returns-in-65 c = rw c.in-65.is refl

pub returns-in-66 : goal.returns-in-66
unfolding if ◌and◌
returns-in-66 c = rw c.in-66.is refl

pub returns-in-67 : goal.returns-in-67
unfolding if ◌and◌
returns-in-67 c = rw c.in-67.is refl

pub returns-in_default : goal.returns-in_default
unfolding if ◌and◌
returns-in_default c =
    let r = c.in_default.in_default-own.rest in
    rw (ne_eqb _ _ r.0.0.1, ne_eqb _ _ r.0.1, ne_eqb _ _ r.1) refl
