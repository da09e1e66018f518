-- `asm_values::values::symbol_by`: each arm is the clause of its tag.
use mathlib.Core.Path.{◌∙◌, refl}
use borrow.Author.Tests.{ne_eqb}
use Rattle.base.specs.Test.{◌or◌, if}
use Rattle.language.specs.Operand.{symbol_by}
use Rattle.asm_values.proofs.values.symbol_by.Goals as goal

pub returns-in-9 : goal.returns-in-9
unfolding symbol_by ◌or◌ if
returns-in-9 c = c.value_by.ensures ∙ rw (c.largest.ensures.0, c.in-9.is) refl

pub returns-in-11 : goal.returns-in-11
unfolding symbol_by ◌or◌ if
returns-in-11 c = c.value_by-in-11.ensures ∙ rw (c.largest-in-11.ensures.0, c.in-11.is) refl

pub returns-in-16 : goal.returns-in-16
unfolding symbol_by ◌or◌ if
returns-in-16 c = c.equal_by.ensures ∙ rw c.in-16.is refl

pub returns-in-17 : goal.returns-in-17
unfolding symbol_by ◌or◌ if
returns-in-17 c = c.literal_by.ensures ∙ rw c.in-17.is refl

pub returns-in-12 : goal.returns-in-12
unfolding symbol_by ◌or◌ if
returns-in-12 c = c.place_by.ensures ∙ rw c.in-12.is refl

pub returns-in-13 : goal.returns-in-13
unfolding symbol_by ◌or◌ if
returns-in-13 c = c.callee_by.ensures ∙ rw c.in-13.is refl

pub returns-in-14 : goal.returns-in-14
unfolding symbol_by ◌or◌ if
returns-in-14 c = c.global_by.ensures ∙ rw c.in-14.is refl

pub returns-in_default : goal.returns-in_default
unfolding symbol_by ◌or◌ if
returns-in_default c = c.address_by.ensures ∙ rw (ne_eqb _ 9 c.in_default.in_default-own.rest.0.0.0.0.0.0.1, ne_eqb _ 11 c.in_default.in_default-own.rest.0.0.0.0.0.1, ne_eqb _ 16 c.in_default.in_default-own.rest.0.0.0.0.1, ne_eqb _ 17 c.in_default.in_default-own.rest.0.0.0.1, ne_eqb _ 12 c.in_default.in_default-own.rest.0.0.1, ne_eqb _ 13 c.in_default.in_default-own.rest.0.1, ne_eqb _ 14 c.in_default.in_default-own.rest.1) refl
