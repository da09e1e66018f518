use native.Mathlib.Omega.{arith}
use mathlib.Core.Path.{refl, ◌∙◌}
use Prim.Native.Nat.{◌+◌}
use Rattle.rules.specs.Operand.{given}
use Rattle.rules.specs.Exec.{changes}
use Rattle.exec_core.proofs.Laws.{zero-kept, reads}
use Rattle.exec_moves.proofs.icv.Goals as goal

pub fetch-requires : goal.fetch-requires
fetch-requires c = (rw c.operand-one.ensures (reads c.requires.one), c.requires.zero)

pub returns-in_default : goal.returns-in_default
unfolding changes given
returns-in_default c = rw (← c.operand-one.ensures, ← c.fetch.ensures, c.in_default.is)

pub store-requires : goal.store-requires
store-requires c = (rw c.operand-one.ensures c.requires.one, c.requires.zero, omega arith)

pub returns : goal.returns
unfolding changes given
returns c = c.store.ensures (λ j. c.args.b + 72) 0 refl ∙ rw (zero-kept _ c.requires.zero, c.add.ensures, ← c.operand-one.ensures, ← c.fetch.ensures, c.in-Some.is)
