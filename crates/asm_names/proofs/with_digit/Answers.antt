-- `asm_names::with_digit` meets its contract.
use mathlib.Core.Path.{sym}
use Rattle.asm_names.proofs.Numbers.{cut-le, cut-over, digit-ge}
use borrow.Author.Rules.{rules}
use Rattle.asm_names.proofs.with_digit.Goals as goal

pub overflow_sub-m : goal.overflow_sub-m
overflow_sub-m c = digit-ge _ c.requires.1

pub returns-then-m-le-MOST_WORD : goal.returns-then-m-le-MOST_WORD
returns-then-m-le-MOST_WORD c = (sym (cut-le _ c.if-m-le-MOST_WORD.true), c.if-m-le-MOST_WORD.true)

pub returns : goal.returns
returns c = (sym (cut-over _ c.if-m-le-MOST_WORD.false), search rules)
