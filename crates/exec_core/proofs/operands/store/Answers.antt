use native.Mathlib.Omega.{arith}
use mathlib.Core.Path.{◌∙◌, sym, ap}
use borrow.Author.Tests.{lt-ltb, le-ltb}
use Rattle.base.specs.Test.{if}
use Rattle.rules.specs.Operand.{store_of}
use Rattle.exec_core.specs.Views.{cell_of}
use Rattle.exec_core.proofs.Laws.{store-here, word_in, reads}
use Rattle.exec_core.proofs.operands.store.Goals as goal

pub returns-then-held_here : goal.returns-then-held_here
returns-then-held_here c = λ way k e. rw (store-here _ _ _ _ _ k c.requires.0 (sym c.held_here.ensures ∙ c.if-held_here.true), e, c.index-x.ensures)

pub address-requires : goal.address-requires
address-requires c = (reads c.requires.0, c.requires.1, sym c.held_here.ensures ∙ c.if-held_here.false)

pub returns-then-i-c : goal.returns-then-i-c
unfolding store_of if
returns-then-i-c c = λ way k e. rw (c.address.ensures, ← c.word_at.ensures, c.in-Some.is, lt-ltb _ _ c.if-i-c.true)

pub offset_bounds-m-i : goal.offset_bounds-m-i
offset_bounds-m-i c = omega (arith, word_in _ _ _ (sym c.word_at.ensures ∙ ap cell_of c.in-Some.is))

pub bounds-m-i : goal.bounds-m-i
bounds-m-i c = word_in _ _ _ (sym c.word_at.ensures ∙ ap cell_of c.in-Some.is)

pub act-requires : goal.act-requires
act-requires c = reads c.requires.0

pub returns : goal.returns
unfolding store_of if
returns c = λ way k e. rw (c.address.ensures, ← c.word_at.ensures, c.in-Some.is, le-ltb _ _ c.if-i-c.false, e, c.act.ensures)

pub returns-in_default : goal.returns-in_default
unfolding store_of if
returns-in_default c = λ way k e. rw (c.address.ensures, ← c.word_at.ensures, c.in_default.is)
