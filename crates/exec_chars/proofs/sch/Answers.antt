use Rattle.rules.specs.Operand as Rules
use native.Mathlib.Omega.{arith}
use mathlib.Core.Path.{refl, ap, ◌∙◌}
use Prim.Native.Nat.{◌+◌}
use Rattle.rules.specs.Exec.{sch_of}
use Rattle.exec_chars.proofs.sch.Goals as goal

pub bounds-z-index : goal.bounds-z-index
bounds-z-index c = omega (arith, ap Rules.Operand.reg c.operand-one.ensures, c.requires.one.register)

pub store_char-requires : goal.store_char-requires
store_char-requires c = rw c.operand-two.ensures c.requires.two

pub returns : goal.returns
unfolding sch_of
returns c = c.store_char.ensures (λ j. c.args.b + 72) refl ∙ rw (c.operand-two.ensures, c.index.ensures, ap Rules.Operand.reg c.operand-one.ensures)
