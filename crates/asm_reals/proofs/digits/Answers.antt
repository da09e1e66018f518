-- `asm_reals::digits` meets its contract: no digits are 0, and some are a number.
use mathlib.Core.Path.{◌∙◌, ap}
use Rattle.asm_types.specs.Views.{cut_parsed}
use Rattle.asm_reals.proofs.Laws.{none, some-digits}
use Rattle.asm_reals.proofs.digits.Goals as goal

pub returns-then-s-eq0 : goal.returns-then-s-eq0
returns-then-s-eq0 c = none c.args.s.now c.if-s-eq0.true

pub returns : goal.returns
returns c = c.number_of.ensures ∙ ap cut_parsed (some-digits _ c.if-s-eq0.false)
