-- `asm_values::formats::takes_x`: each return rewrites with the tests that led there.
use mathlib.Core.Path.{◌∙◌, refl, sym}
use Rattle.base.specs.Test.{◌and◌}
use Rattle.asm_values.proofs.formats.takes_x.Goals as goal

pub returns-then-not-takes_kind : goal.returns-then-not-takes_kind
unfolding ◌and◌
returns-then-not-takes_kind c = rw (sym c.takes_kind.ensures ∙ c.if-not-takes_kind.true) refl

pub returns : goal.returns
unfolding ◌and◌
returns c = rw (c.last_x.ensures, sym c.takes_kind.ensures ∙ c.if-not-takes_kind.false) refl
