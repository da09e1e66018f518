-- `asm_names::number_of` meets its contract. Invariant: the digits from place i on, after the number so far, make the whole.
use mathlib.Core.Path.{sym, ◌∙◌}
use Rattle.asm_names.proofs.Numbers.{more-digit, more-out, more-start, more-stop, none-long}
use borrow.Author.Rules.{rules}
use Rattle.asm_names.proofs.number_of.Goals as goal

pub returns-then-s-eq0 : goal.returns-then-s-eq0
returns-then-s-eq0 c = none-long c.args.s.now c.if-s-eq0.true

pub loop-i-init : goal.loop-i-init
loop-i-init c = (search rules, more-start c.args.s.now c.if-s-eq0.false)

pub returns-then-not-is_digit : goal.returns-then-not-is_digit
returns-then-not-is_digit c = more-stop _ _ _ c.loop-i-test.true (sym c.is_digit.ensures ∙ c.if-not-is_digit.true) ∙ c.loop-i.invariant.1

pub with_digit-n-requires : goal.with_digit-n-requires
with_digit-n-requires c = (c.loop-i.invariant.0, sym c.is_digit.ensures ∙ c.if-not-is_digit.false)

pub loop-i-preserved : goal.loop-i-preserved
loop-i-preserved c = (
  c.with_digit-n.ensures.1,
  rw c.with_digit-n.ensures.0 (more-digit _ _ _ c.loop-i-test.true (sym c.is_digit.ensures ∙ c.if-not-is_digit.false)) ∙ c.loop-i.invariant.1,
)

pub returns : goal.returns
returns c = more-out _ _ _ c.loop-i-test.false c.loop-i.invariant.0 ∙ c.loop-i.invariant.1
