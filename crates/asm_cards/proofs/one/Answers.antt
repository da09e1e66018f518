-- `asm_cards::one` meets its contract: the two values of the test.
use Rattle.base.specs.Test.{if}
use native.Mathlib.Omega.{arith}
use Rattle.asm_cards.proofs.one.Goals as goal

pub returns-then-b : goal.returns-then-b
unfolding if
returns-then-b c = (rw c.if-b.true, omega arith)

pub returns : goal.returns
unfolding if
returns c = (rw c.if-b.false, omega arith)
