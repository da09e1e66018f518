-- `asm_operations::names::ends` meets its contract: with the table, or 24 rows on.
use native.Mathlib.Omega.{arith}
use mathlib.Core.Path.{refl}
use borrow.Author.Tests.{lt-ltb, le-ltb}
use Rattle.base.specs.Test.{if}
use Rattle.asm_operations.specs.Codes.{end}
use Rattle.asm_operations.proofs.names.ends.Goals as goal

pub returns-then-from : goal.returns-then-from
unfolding end if
returns-then-from c = (rw (lt-ltb 82 _ c.if-from.true) refl, omega arith, omega arith)

pub returns : goal.returns
unfolding end if
returns c = (rw (le-ltb 82 _ c.if-from.false) refl, omega arith, omega arith)
