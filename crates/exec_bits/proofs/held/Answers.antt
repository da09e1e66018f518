use Rattle.rules.specs.Operand as Rules
use native.Mathlib.Omega.{arith}
use mathlib.Core.Path.{ap}
use Rattle.base.proofs.Bool.{test-true}
use Rattle.exec_core.proofs.Laws.{fetch-here}
use Rattle.exec_bits.proofs.held.Goals as goal

pub bounds-z-x : goal.bounds-z-x
bounds-z-x c = omega (arith, ap Rules.Operand.reg c.operand-o.ensures, c.requires.1.register)

pub returns : goal.returns
returns c = λ m. let j = c.joined.ensures in rw (j.0, c.index-x.ensures, ap Rules.Operand.reg c.operand-o.ensures, ap Rules.Operand.val c.operand-o.ensures) (fetch-here _ _ c.requires.2 m c.requires.1 (test-true _ c.requires.1.taken) (rw (c.index-x.ensures, ap Rules.Operand.reg c.operand-o.ensures) at j.1) (rw (ap Rules.Operand.val c.operand-o.ensures) at j.2))
