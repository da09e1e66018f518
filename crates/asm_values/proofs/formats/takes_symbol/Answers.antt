-- `asm_values::formats::takes_symbol`: each arm is a tag of the list.
use mathlib.Core.Path.{refl}
use borrow.Author.Tests.{ne_eqb}
use Rattle.base.specs.Test.{◌or◌}
use Rattle.asm_values.proofs.formats.takes_symbol.Goals as goal

pub returns-in-1 : goal.returns-in-1
unfolding ◌or◌
returns-in-1 c = rw c.in-1.is refl

pub returns-in-2 : goal.returns-in-2
unfolding ◌or◌
returns-in-2 c = rw c.in-2.is refl

pub returns-in-3 : goal.returns-in-3
unfolding ◌or◌
returns-in-3 c = rw c.in-3.is refl

pub returns-in-4 : goal.returns-in-4
unfolding ◌or◌
returns-in-4 c = rw c.in-4.is refl

pub returns-in-9 : goal.returns-in-9
unfolding ◌or◌
returns-in-9 c = rw c.in-9.is refl

pub returns-in-11 : goal.returns-in-11
unfolding ◌or◌
returns-in-11 c = rw c.in-11.is refl

pub returns-in-12 : goal.returns-in-12
unfolding ◌or◌
returns-in-12 c = rw c.in-12.is refl

pub returns-in-13 : goal.returns-in-13
unfolding ◌or◌
returns-in-13 c = rw c.in-13.is refl

pub returns-in-14 : goal.returns-in-14
unfolding ◌or◌
returns-in-14 c = rw c.in-14.is refl

pub returns-in-17 : goal.returns-in-17
unfolding ◌or◌
returns-in-17 c = rw c.in-17.is refl

pub returns-in-16 : goal.returns-in-16
unfolding ◌or◌
returns-in-16 c = rw c.in-16.is refl

pub returns-in_default : goal.returns-in_default
unfolding ◌or◌
returns-in_default c = rw (ne_eqb _ 1 c.in_default.in_default-own.rest.0.0.0.0.0.0.0.0.0.0.1, ne_eqb _ 2 c.in_default.in_default-own.rest.0.0.0.0.0.0.0.0.0.1, ne_eqb _ 3 c.in_default.in_default-own.rest.0.0.0.0.0.0.0.0.1, ne_eqb _ 4 c.in_default.in_default-own.rest.0.0.0.0.0.0.0.1, ne_eqb _ 9 c.in_default.in_default-own.rest.0.0.0.0.0.0.1, ne_eqb _ 11 c.in_default.in_default-own.rest.0.0.0.0.0.1, ne_eqb _ 12 c.in_default.in_default-own.rest.0.0.0.0.1, ne_eqb _ 13 c.in_default.in_default-own.rest.0.0.0.1, ne_eqb _ 14 c.in_default.in_default-own.rest.0.0.1, ne_eqb _ 17 c.in_default.in_default-own.rest.0.1, ne_eqb _ 16 c.in_default.in_default-own.rest.1) refl
