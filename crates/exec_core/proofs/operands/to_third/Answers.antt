use native.Mathlib.Omega.{arith}
use Prim.Native.Nat.{◌+◌}
use Rattle.base.specs.Test.{if}
use Rattle.exec_core.specs.Views.{way_of}
use Rattle.exec_core.proofs.Laws.{toward-suc}
use Rattle.exec_core.proofs.operands.to_third.Goals as goal

pub overflow_mul-result : goal.overflow_mul-result
overflow_mul-result c = omega (arith, c.index.ensures, c.type_inv.t (c.args.b + 7))

pub overflow_add-result : goal.overflow_add-result
overflow_add-result c = omega (arith, c.index.ensures, c.type_inv.t (c.args.b + 7))

pub returns : goal.returns
unfolding way_of if
returns c = rw c.index.ensures (toward-suc _ _ c.requires.1)
