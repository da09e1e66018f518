-- `asm_values::formats::takes_number`: each arm is a tag of the list.
use mathlib.Core.Path.{refl}
use borrow.Author.Tests.{ne_eqb}
use Rattle.base.specs.Test.{◌or◌}
use Rattle.asm_values.proofs.formats.takes_number.Goals as goal

pub returns-in-9 : goal.returns-in-9
unfolding ◌or◌
returns-in-9 c = rw c.in-9.is refl

pub returns-in-10 : goal.returns-in-10
unfolding ◌or◌
returns-in-10 c = rw c.in-10.is refl

pub returns-in-11 : goal.returns-in-11
unfolding ◌or◌
returns-in-11 c = rw c.in-11.is refl

pub returns-in-17 : goal.returns-in-17
unfolding ◌or◌
returns-in-17 c = rw c.in-17.is refl

pub returns-in-16 : goal.returns-in-16
unfolding ◌or◌
returns-in-16 c = rw c.in-16.is refl

pub returns-in_default : goal.returns-in_default
unfolding ◌or◌
returns-in_default c = rw (ne_eqb _ 9 c.in_default.in_default-own.rest.0.0.0.0.1, ne_eqb _ 10 c.in_default.in_default-own.rest.0.0.0.1, ne_eqb _ 11 c.in_default.in_default-own.rest.0.0.1, ne_eqb _ 17 c.in_default.in_default-own.rest.0.1, ne_eqb _ 16 c.in_default.in_default-own.rest.1) refl
