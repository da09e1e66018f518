use Rattle.rules.specs.Operand as Rules
use native.Mathlib.Omega.{arith}
use mathlib.Core.Path.{ap}
use Rattle.rules.specs.Operand.{given}
use Rattle.rules.specs.Exec.{lch_of}
use Rattle.exec_chars.proofs.lch.Goals as goal

pub fetch_char-requires : goal.fetch_char-requires
fetch_char-requires c = rw c.operand-two.ensures c.requires.two

pub returns-in_default : goal.returns-in_default
unfolding lch_of given
returns-in_default c = λ k. rw (← c.operand-two.ensures, ← c.fetch_char.ensures, c.in_default.is)

pub char_act-requires : goal.char_act-requires
char_act-requires c = rw c.operand-two.ensures c.requires.two

pub bounds-z-x : goal.bounds-z-x
bounds-z-x c = omega (arith, ap Rules.Operand.reg c.operand-one.ensures, c.requires.one.register)

pub returns : goal.returns
unfolding lch_of given
returns c = λ k. rw (← c.operand-two.ensures, ← c.fetch_char.ensures, c.in-Some.is, ← c.char_act.ensures, c.index-x.ensures, ap Rules.Operand.reg c.operand-one.ensures)
