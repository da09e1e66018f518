-- `asm_values::formats::register_kind`: each return rewrites with the tests that led there.
use mathlib.Core.Path.{refl}
use native.Mathlib.Omega.{arith}
use borrow.Author.Tests.{le-leb, lt-leb}
use Rattle.base.specs.Test.{if}
use Rattle.language.specs.Operand.{register_kind}
use Rattle.asm_values.proofs.formats.register_kind.Goals as goal

pub returns-then-reg-le-XS : goal.returns-then-reg-le-XS
unfolding register_kind if
returns-then-reg-le-XS c = (rw (le-leb _ _ c.if-reg-le-XS.true) refl, omega arith)

pub returns : goal.returns
unfolding register_kind if
returns c = (rw (lt-leb _ _ c.if-reg-le-XS.false) refl, omega arith)
