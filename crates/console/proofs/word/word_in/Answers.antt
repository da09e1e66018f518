-- `console::word::word_in` meets its contract. Invariant: the digits from place i on, after the number so far, make the whole.
use Prim.Native.Nat.{◌+◌}
use mathlib.Core.Path.{sym, ◌∙◌}
use borrow.Author.Rules.{rules}
use borrow.Author.Tests.{eqb-false, eqb-true}
use lib.ListN.{drop}
use Rattle.console.proofs.Words.{more-digit, more-out, more-over, more-start, more-stop, none-long}
use Rattle.console.proofs.word.word_in.Goals as goal

pub returns-then-is_empty : goal.returns-then-is_empty
returns-then-is_empty c = none-long c.args.text.now (eqb-true _ _ (sym c.is_empty.ensures ∙ c.if-is_empty.true))

pub loop-b-init : goal.loop-b-init
loop-b-init c = (search rules, more-start c.args.text.now (eqb-false _ _ (sym c.is_empty.ensures ∙ c.if-is_empty.false)))

pub returns-then-not-is_digit : goal.returns-then-not-is_digit
returns-then-not-is_digit c = more-stop _ _ _ c.loop-b-test.true (sym c.is_digit.ensures ∙ c.if-not-is_digit.true) ∙ c.loop-b.invariant.1

pub with_digit-m-requires : goal.with_digit-m-requires
with_digit-m-requires c = (c.loop-b.invariant.0, sym c.is_digit.ensures ∙ c.if-not-is_digit.false)

pub returns-then-m-gt-MOST_WORD : goal.returns-then-m-gt-MOST_WORD
returns-then-m-gt-MOST_WORD c = more-over _ (drop (c.loop-b.b-index + 1) c.args.text.now) c.if-m-gt-MOST_WORD.true ∙ rw c.with_digit-m.ensures (more-digit _ _ _ c.loop-b-test.true (sym c.is_digit.ensures ∙ c.if-not-is_digit.false)) ∙ c.loop-b.invariant.1

pub loop-b-preserved : goal.loop-b-preserved
loop-b-preserved c = (search rules, rw c.with_digit-m.ensures (more-digit _ _ _ c.loop-b-test.true (sym c.is_digit.ensures ∙ c.if-not-is_digit.false)) ∙ c.loop-b.invariant.1)

pub returns : goal.returns
returns c = more-out _ _ _ c.loop-b-test.false c.loop-b.invariant.0 ∙ c.loop-b.invariant.1
