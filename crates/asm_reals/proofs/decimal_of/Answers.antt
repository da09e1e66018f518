-- `asm_reals::decimal_of` meets its contract: with a minus, with a plus, without a sign.
use mathlib.Core.Path.{◌∙◌}
use Rattle.asm_text.proofs.Slices.{rest}
use Rattle.asm_reals.proofs.Laws.{no_text, with-minus, with-plus, unsigned}
use Rattle.asm_reals.proofs.decimal_of.Goals as goal

pub returns-then-s-eq0 : goal.returns-then-s-eq0
returns-then-s-eq0 c = no_text c.args.s.now c.if-s-eq0.true

pub returns-then-s-eq45 : goal.returns-then-s-eq45
returns-then-s-eq45 c = (rw (rest _ _) at c.pointed.ensures) ∙ with-minus _ c.if-s-eq45.true

pub returns-then-s-eq43 : goal.returns-then-s-eq43
returns-then-s-eq43 c = (rw (rest _ _) at c.pointed-then-s-eq43.ensures) ∙ with-plus _ c.if-s-eq45.false c.if-s-eq43.true

pub returns : goal.returns
returns c = c.pointed-2.ensures ∙ unsigned _ c.if-s-eq45.false c.if-s-eq43.false
