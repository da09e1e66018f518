-- `asm_values::values::global_awaits`: each return rewrites with the tests that led there.
use mathlib.Core.Path.{refl}
use Rattle.base.specs.Test.{if}
use Rattle.asm_values.proofs.values.global_awaits.Goals as goal

pub returns-then-p : goal.returns-then-p
unfolding if
returns-then-p c = rw c.if-p.true refl

pub returns : goal.returns
unfolding if
returns c = rw c.if-p.false refl
