-- `asm_forms::operand::single_form` meets its contract: each return rewrites with the tests that led there.
use mathlib.Core.Path.{refl}
use borrow.Author.Tests.{ne_eqb}
use Rattle.base.specs.Test.{◌or◌, if}
use Rattle.base.specs.Lists.{member}
use Rattle.language.specs.Form.{single_form}
use Rattle.asm_forms.proofs.operand.single_form.Goals as goal

pub returns-in-46 : goal.returns-in-46
unfolding single_form if member ◌or◌
returns-in-46 c = rw c.in-46.is refl

pub returns-in-42 : goal.returns-in-42
unfolding single_form if member ◌or◌
returns-in-42 c = rw c.in-42.is refl

pub returns-in-82 : goal.returns-in-82
unfolding single_form if member ◌or◌
returns-in-82 c = rw c.in-82.is refl

pub returns-in-78 : goal.returns-in-78
unfolding single_form if member ◌or◌
returns-in-78 c = rw c.in-78.is refl

pub returns-in-69 : goal.returns-in-69
unfolding single_form if member ◌or◌
returns-in-69 c = rw c.in-69.is refl

pub returns-in_default : goal.returns-in_default
unfolding single_form if member ◌or◌
returns-in_default c =
    let r = c.in_default.in_default-own.rest in
    rw (ne_eqb _ _ r.0.0.0.0.1, ne_eqb _ _ r.0.0.0.1, ne_eqb _ _ r.0.0.1, ne_eqb _ _ r.0.1, ne_eqb _ _ r.1) refl
