-- `asm_forms::operand::find_sign` meets its contract. Invariant: the scan from place i ends where the whole scan does.
use mathlib.Core.Path.{◌∙◌}
use native.Mathlib.Omega.{arith}
use Rattle.language.specs.Form.{before_sign}
use Rattle.language.proofs.Laws.{span_more, span-out, span-stop}
use Rattle.asm_forms.proofs.Forms.{no_sign, sign-minus, sign-plus}
use borrow.Author.Rules.{rules}
use Rattle.asm_forms.proofs.operand.find_sign.Goals as goal

pub loop-i-init : goal.loop-i-init
loop-i-init c = (omega arith, search rules)

pub returns-then-s-i-eq43 : goal.returns-then-s-i-eq43
returns-then-s-i-eq43 c = span-stop before_sign _ _ c.loop-i-test.true (sign-plus _ c.if-s-i-eq43.true) ∙ c.loop-i.invariant.0

pub returns-then-s-i-eq45 : goal.returns-then-s-i-eq45
returns-then-s-i-eq45 c = span-stop before_sign _ _ c.loop-i-test.true (sign-minus _ c.if-s-i-eq45.true) ∙ c.loop-i.invariant.0

pub loop-i-preserved : goal.loop-i-preserved
loop-i-preserved c = (span_more before_sign _ _ c.loop-i-test.true (no_sign _ c.if-s-i-eq43.false c.if-s-i-eq45.false) ∙ c.loop-i.invariant.0, search rules)

pub returns : goal.returns
returns c = omega (arith, span-out before_sign c.args.s.now _ c.loop-i-test.false, c.loop-i.invariant.0)
