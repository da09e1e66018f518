use borrow.Author.Tests.{lt-ltb, le-ltb}
use Rattle.base.specs.Test.{if}
use Rattle.rules.specs.Operand.{fetch_char_of, char_at, char_in}
use Rattle.exec_core.proofs.chars.fetch_char.Goals as goal

pub returns-then-i-m : goal.returns-then-i-m
unfolding fetch_char_of char_at char_in if
returns-then-i-m c = rw (c.char_address-a.ensures, lt-ltb _ _ (rw c.index-i.ensures at c.if-i-m.true), c.byte_of.ensures, c.index-i.ensures)

pub returns : goal.returns
unfolding fetch_char_of char_at char_in if
returns c = rw (c.char_address-a.ensures, le-ltb _ _ (rw c.index-i.ensures at c.if-i-m.false))
