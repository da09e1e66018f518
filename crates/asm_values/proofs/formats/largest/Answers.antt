-- `asm_values::formats::largest`: each return rewrites with the tests that led there.
use mathlib.Core.Path.{refl}
use native.Mathlib.Omega.{arith}
use borrow.Author.Tests.{eq-eqb, ne_eqb}
use Rattle.base.specs.Test.{if}
use Rattle.asm_values.specs.Read.{largest_of}
use Rattle.asm_values.proofs.formats.largest.Goals as goal

pub returns-then-format-eq-SHIFT_TAG : goal.returns-then-format-eq-SHIFT_TAG
unfolding largest_of if
returns-then-format-eq-SHIFT_TAG c = (rw (eq-eqb _ _ c.if-format-eq-SHIFT_TAG.true) refl, omega arith)

pub returns : goal.returns
unfolding largest_of if
returns c = (rw (ne_eqb _ _ c.if-format-eq-SHIFT_TAG.false) refl, omega arith)
