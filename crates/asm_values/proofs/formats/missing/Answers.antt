-- `asm_values::formats::missing`: each return rewrites with the tests that led there.
use mathlib.Core.Path.{◌∙◌, refl, sym}
use Rattle.base.specs.Test.{if}
use Rattle.asm_values.proofs.formats.missing.Goals as goal

pub returns-then-takes_kind : goal.returns-then-takes_kind
unfolding if
returns-then-takes_kind c = rw (sym c.takes_kind.ensures ∙ c.if-takes_kind.true) refl

pub returns : goal.returns
unfolding if
returns c = rw (sym c.takes_kind.ensures ∙ c.if-takes_kind.false) refl
