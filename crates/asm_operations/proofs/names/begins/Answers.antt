-- `asm_operations::names::begins` meets its contract: before the letters, past them, and among them.
use native.Mathlib.Omega.{arith}
use mathlib.Core.Path.{refl}
use borrow.Author.Tests.{lt-ltb, le-ltb}
use Rattle.base.specs.Test.{if}
use Rattle.asm_operations.specs.Codes.{begin}
use Rattle.asm_operations.proofs.names.begins.Goals as goal

pub returns-then-a-lt67 : goal.returns-then-a-lt67
unfolding begin if
returns-then-a-lt67 c = (rw (lt-ltb _ 67 c.if-a-lt67.true) refl, omega arith)

pub returns-then-a-gt90 : goal.returns-then-a-gt90
unfolding begin if
returns-then-a-gt90 c = (rw (le-ltb _ 67 c.if-a-lt67.false, lt-ltb 90 _ c.if-a-gt90.true) refl, omega arith)

pub returns : goal.returns
unfolding begin if
returns c = (rw (le-ltb _ 67 c.if-a-lt67.false, le-ltb 90 _ c.if-a-gt90.false) refl, omega arith)
