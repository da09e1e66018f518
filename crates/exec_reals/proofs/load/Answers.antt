-- `exec_reals::load` meets its contract: the first word's spot, then whether the second is in memory.
use mathlib.Core.Path.{sym, ap, ◌∙◌}
use native.Mathlib.Omega.{arith}
use Rattle.rules.proofs.Operands.{word_in}
use Rattle.exec_core.specs.Views.{cell_of}
use Rattle.exec_core.proofs.Laws.{reads}
use Rattle.exec_reals.proofs.Laws.{held_of, spot-of, pair-outside, pair-words, pair-past}
use Rattle.exec_reals.proofs.load.Goals as goal

pub address-requires : goal.address-requires
address-requires c = (rw c.operand.ensures (reads c.requires.one), c.requires.zero, held_of c.operand.ensures c.requires.one)

pub returns-in_err-i : goal.returns-in_err-i
returns-in_err-i c = rw c.from_residual.ensures (pair-outside _ _ _ (spot-of _ c.address.ensures c.operand.ensures) c.word_at.ensures c.in_err-i.was)

pub overflow_add-j : goal.overflow_add-j
overflow_add-j c = omega (arith, word_in _ _ _ (sym c.word_at.ensures ∙ ap cell_of c.in_ok-i.was))

pub returns-then-j-m : goal.returns-then-j-m
returns-then-j-m c = pair-words _ _ _ (spot-of _ c.address.ensures c.operand.ensures) c.word_at.ensures c.in_ok-i.was c.if-j-m.true

pub returns : goal.returns
returns c = pair-past _ _ _ (spot-of _ c.address.ensures c.operand.ensures) c.word_at.ensures c.in_ok-i.was c.if-j-m.false
