-- `asm_collect::numbers::words_in` meets its contract: the two values of the test.
use borrow.Author.Tests.{eq-eqb, ne_eqb}
use mathlib.Core.Path.{refl}
use native.Mathlib.Omega.{arith}
use Rattle.base.specs.Test.{if}
use Rattle.asm_collect.proofs.numbers.words_in.Goals as goal

pub returns-then-c-opened : goal.returns-then-c-opened
unfolding if
returns-then-c-opened c = (rw (ne_eqb _ _ c.if-c-opened.true) refl, omega arith)

pub returns : goal.returns
unfolding if
returns c = (rw (eq-eqb _ _ c.if-c-opened.false) c.word_count.ensures.0, c.word_count.ensures.1)
