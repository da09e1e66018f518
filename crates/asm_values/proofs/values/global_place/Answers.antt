-- `asm_values::values::global_place`: each return rewrites with the tests that led there.
use mathlib.Core.Path.{◌∙◌, refl, sym}
use Rattle.base.specs.Test.{if}
use Rattle.asm_values.proofs.values.global_place.Goals as goal

pub returns-then-p : goal.returns-then-p
unfolding if
returns-then-p c = c.gives.ensures ∙ sym (rw c.if-p.true refl)

pub returns : goal.returns
unfolding if
returns c = rw c.if-p.false refl
