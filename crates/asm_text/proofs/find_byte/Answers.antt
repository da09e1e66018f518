-- `asm_text::find_byte` meets its contract. Invariant: the scan from place i ends where the scan from `from` does.
use mathlib.Core.Path.{refl, ap, ◌∙◌}
use mathlib.Core.Bool.{not}
use native.Mathlib.Omega.{arith}
use borrow.Author.Tests.{eq-eqb, ne_eqb}
use Rattle.language.specs.Form.{before_byte}
use Rattle.language.proofs.Laws.{span_more, span-out, span-stop}
use borrow.Author.Rules.{rules}
use Rattle.asm_text.proofs.find_byte.Goals as goal

pub loop-i-init : goal.loop-i-init
loop-i-init c = (refl, c.requires)

pub returns-then-s-i : goal.returns-then-s-i
returns-then-s-i c = (span-stop (before_byte _) _ _ c.loop-i-test.true (ap not (eq-eqb _ _ c.if-s-i.true)) ∙ c.loop-i.invariant.0, search rules)

pub loop-i-preserved : goal.loop-i-preserved
loop-i-preserved c = (span_more (before_byte _) _ _ c.loop-i-test.true (ap not (ne_eqb _ _ c.if-s-i.false)) ∙ c.loop-i.invariant.0, search rules)

pub returns : goal.returns
returns c = (omega (arith, span-out (before_byte c.args.d) c.args.s.now _ c.loop-i-test.false, c.loop-i.invariant.0), search rules)
