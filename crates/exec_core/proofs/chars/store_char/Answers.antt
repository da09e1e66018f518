use borrow.Author.Tests.{lt-ltb, le-ltb}
use Rattle.base.specs.Test.{if}
use Rattle.rules.specs.Operand.{store_char_of, char_at, with_char}
use Rattle.exec_core.proofs.chars.store_char.Goals as goal

pub returns-then-m-i : goal.returns-then-m-i
unfolding store_char_of char_at with_char if
returns-then-m-i c = λ way e. rw (c.char_address-a.ensures, le-ltb _ _ (rw c.index-i.ensures at c.if-m-i.true))

pub returns-then-i-c : goal.returns-then-i-c
unfolding store_char_of char_at with_char if
returns-then-i-c c = λ way e. rw (c.char_address-a.ensures, lt-ltb _ _ (rw c.index-i.ensures at c.if-m-i.false), lt-ltb _ _ (rw c.index-i.ensures at c.if-i-c.true))

pub returns : goal.returns
unfolding store_char_of char_at with_char if
returns c = λ way e. rw (c.char_address-a.ensures, lt-ltb _ _ (rw c.index-i.ensures at c.if-m-i.false), le-ltb _ _ (rw c.index-i.ensures at c.if-i-c.false), e, c.with_byte.ensures, c.char_act.ensures, c.index-i.ensures)
