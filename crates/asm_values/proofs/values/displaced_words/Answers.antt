-- `asm_values::values::displaced_words`: four times a value over the limit is over it too.
use Prim.Native.Nat.{◌*◌, ◌<◌}
use mathlib.Core.Path.{refl}
use native.Mathlib.Omega.{arith}
use borrow.Author.Tests.{lt-leb}
use Rattle.base.specs.Test.{if}
use Rattle.language.specs.Operand.{displaced}
use Rattle.asm_values.proofs.values.displaced_words.Goals as goal

pub returns-then-v-gt-CFP_M : goal.returns-then-v-gt-CFP_M
unfolding displaced if
returns-then-v-gt-CFP_M c = let h : 2147483647 < 4 * c.args.v = omega (arith, c.if-v-gt-CFP_M.true) in rw (lt-leb (4 * c.args.v) 2147483647 h) refl
