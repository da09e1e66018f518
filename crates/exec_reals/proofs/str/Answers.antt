-- `exec_reals::str` meets its contract: the first word's spot, whether the second is in memory, whether the first is a constant.
use mathlib.Core.Path.{sym, ap, ◌∙◌}
use native.Mathlib.Omega.{arith}
use Rattle.rules.proofs.Operands.{word_in}
use Rattle.exec_core.specs.Views.{cell_of}
use Rattle.exec_core.proofs.Laws.{reads}
use Rattle.exec_reals.proofs.Laws.{held_of, spot-of, store-outside, store-past, store-constant, store_words}
use Rattle.exec_reals.proofs.str.Goals as goal

pub address-requires : goal.address-requires
address-requires c = (rw c.operand.ensures (reads c.requires.one), c.requires.zero, held_of c.operand.ensures c.requires.one)

pub returns-in_default : goal.returns-in_default
returns-in_default c = store-outside _ _ _ (spot-of _ c.address.ensures c.operand.ensures) c.word_at.ensures _ _ _ _ c.in_default.is

pub overflow_add-j : goal.overflow_add-j
overflow_add-j c = omega (arith, word_in _ _ _ (sym c.word_at.ensures ∙ ap cell_of c.in-Some.is))

pub returns-then-m-j : goal.returns-then-m-j
returns-then-m-j c = store-past _ _ _ (spot-of _ c.address.ensures c.operand.ensures) c.word_at.ensures _ _ _ _ c.in-Some.is c.if-m-j.true

pub returns-then-i-c : goal.returns-then-i-c
returns-then-i-c c = store-constant _ _ _ (spot-of _ c.address.ensures c.operand.ensures) c.word_at.ensures _ _ _ _ c.in-Some.is c.if-m-j.false c.if-i-c.true

pub returns : goal.returns
returns c = store_words _ _ _ (spot-of _ c.address.ensures c.operand.ensures) c.word_at.ensures _ _ _ _ c.in-Some.is c.if-m-j.false c.if-i-c.false
