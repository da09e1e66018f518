-- `asm_forms::texts::ends_text` meets its contract: each return rewrites with the tests that led there.
use mathlib.Core.Path.{refl}
use borrow.Author.Tests.{eq-eqb, ne_eqb}
use Rattle.base.specs.Test.{if}
use Rattle.asm_forms.proofs.Divided.{comma}
use borrow.Author.Rules.{rules}
use Rattle.asm_forms.proofs.texts.ends_text.Goals as goal

pub returns-then-b-eq-COMMA : goal.returns-then-b-eq-COMMA
unfolding if
returns-then-b-eq-COMMA c = (rw (eq-eqb _ comma c.if-b-eq-COMMA.true) refl, search rules)

pub returns : goal.returns
unfolding if
returns c = (rw (ne_eqb _ comma c.if-b-eq-COMMA.false) refl, search rules)
