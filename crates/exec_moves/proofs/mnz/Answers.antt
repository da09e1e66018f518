use Prim.Native.Nat.{◌+◌}
use native.Mathlib.Omega.{arith}
use mathlib.Core.Path.{refl, ◌∙◌}
use Rattle.exec_core.proofs.Laws.{zero-kept}
use Rattle.exec_moves.proofs.mnz.Goals as goal

pub store-requires : goal.store-requires
store-requires c = (rw c.operand-one.ensures c.requires.one, c.requires.zero, omega arith)

pub returns : goal.returns
returns c = c.store.ensures (λ j. c.args.b + 72) 0 refl ∙ rw (zero-kept _ c.requires.zero, c.operand-one.ensures)
