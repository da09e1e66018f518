-- `asm_text::all_printed` meets its contract. Invariant: all bytes from place i on are printed if all of the line are.
use mathlib.Core.Path.{refl, sym, ◌∙◌}
use Rattle.language.specs.Text.{is_printed}
use Rattle.language.proofs.Laws.{all_more, all-out, all-stop}
use borrow.Author.Rules.{rules}
use Rattle.asm_text.proofs.all_printed.Goals as goal

pub loop-i-init : goal.loop-i-init
loop-i-init c = (refl, search rules)

pub returns-then-not-within : goal.returns-then-not-within
returns-then-not-within c = all-stop is_printed _ _ c.loop-i-test.true (sym c.within.ensures ∙ c.if-not-within.true) ∙ c.loop-i.invariant.0

pub loop-i-preserved : goal.loop-i-preserved
loop-i-preserved c = (all_more is_printed _ _ c.loop-i-test.true (sym c.within.ensures ∙ c.if-not-within.false) ∙ c.loop-i.invariant.0, search rules)

pub returns : goal.returns
returns c = all-out is_printed _ _ c.loop-i-test.false ∙ c.loop-i.invariant.0
