-- `shape_switch::switch::default_ok` meets its contract: the third operand is read, and its place reached.
use Rattle.rules.specs.Table.{target3, field}
use mathlib.Core.Path.{refl, ◌∙◌}
use Rattle.shape_switch.proofs.switch.default_ok.Goals as goal

pub returns : goal.returns
unfolding target3 field
returns c = c.may_reach.ensures ∙ rw (c.index-three.ensures ∙ c.word.ensures) refl
