-- `asm_text::past_blanks` meets its contract. Invariant: the scan from place i ends where the scan from `from` does.
use mathlib.Core.Path.{refl, ◌∙◌}
use native.Mathlib.Omega.{arith}
use borrow.Author.Tests.{eq-eqb, ne_eqb}
use Rattle.language.specs.Text.{is_blank}
use Rattle.language.proofs.Laws.{span_more, span-out, span-stop}
use borrow.Author.Rules.{rules}
use Rattle.asm_text.proofs.past_blanks.Goals as goal

pub loop-i-init : goal.loop-i-init
loop-i-init c = (refl, c.requires)

pub returns-then-s-i-ne-BLANK : goal.returns-then-s-i-ne-BLANK
returns-then-s-i-ne-BLANK c = (span-stop is_blank _ _ c.loop-i-test.true (ne_eqb _ _ c.if-s-i-ne-BLANK.true) ∙ c.loop-i.invariant.0, search rules)

pub loop-i-preserved : goal.loop-i-preserved
loop-i-preserved c = (span_more is_blank _ _ c.loop-i-test.true (eq-eqb _ _ c.if-s-i-ne-BLANK.false) ∙ c.loop-i.invariant.0, search rules)

pub returns : goal.returns
returns c = (omega (arith, span-out is_blank c.args.s.now _ c.loop-i-test.false, c.loop-i.invariant.0), search rules)
