-- `asm_answers::verdict::verdict_of` meets its contract: any number but 0 is a fault.
use Rattle.base.specs.Test.{if}
use borrow.Author.Tests.{eq-eqb, ne_eqb}
use native.Mathlib.Omega.{arith}
use mathlib.Core.Path.{refl}
use Rattle.asm_answers.proofs.verdict.verdict_of.Goals as goal

pub returns-then-number-ne0 : goal.returns-then-number-ne0
unfolding if
returns-then-number-ne0 c a = rw (ne_eqb c.args.number 0 (λ e. omega (arith, c.if-number-ne0.true, e))) refl

pub returns : goal.returns
unfolding if
returns c a = rw (eq-eqb c.args.number 0 (omega (arith, c.if-number-ne0.false))) refl
