-- `asm_operations::names::operation_in` meets its contract: three letters, or malformed.
use Rattle.asm_operations.proofs.Letters.{letters-at}
use Rattle.language.specs.Operation.{operation_in}
use Rattle.base.specs.Test.{◌and◌, if}
use borrow.Author.Tests.{eq-eqb, ne_eqb}
use native.Mathlib.Omega.{arith}
use Rattle.asm_operations.proofs.names.operation_in.Goals as goal

pub returns-then-j-i : goal.returns-then-j-i
unfolding operation_in ◌and◌ if
returns-then-j-i c = rw (ne_eqb _ _ c.if-j-i.true)

pub returns-then-not-are_letters : goal.returns-then-not-are_letters
unfolding operation_in ◌and◌ if
returns-then-not-are_letters c = rw (eq-eqb _ _ c.if-j-i.false, letters-at c.args.s.now c.args.i (omega arith), ← c.are_letters.ensures, c.if-not-are_letters.true)

pub returns : goal.returns
unfolding operation_in ◌and◌ if
returns c = rw (eq-eqb _ _ c.if-j-i.false, letters-at c.args.s.now c.args.i (omega arith), ← c.are_letters.ensures, c.if-not-are_letters.false) c.named.ensures
