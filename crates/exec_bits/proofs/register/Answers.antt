use Rattle.rules.specs.Operand as Rules
use native.Mathlib.Omega.{arith}
use mathlib.Core.Path.{ap}
use Rattle.exec_core.proofs.Laws.{fetch-register}
use Rattle.exec_bits.proofs.register.Goals as goal

pub bounds-z-x : goal.bounds-z-x
bounds-z-x c = omega (arith, ap Rules.Operand.reg c.operand-o.ensures, c.requires.1.register)

pub returns : goal.returns
returns c = λ m. rw (fetch-register _ _ _ c.requires.1, c.index-x.ensures, ap Rules.Operand.reg c.operand-o.ensures)
