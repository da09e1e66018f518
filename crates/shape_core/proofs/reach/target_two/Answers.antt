-- `shape_core::reach::target_two` meets its contract: the kind and the value are words 4 and 6 of the entry.
use Rattle.shape_core.specs.Known.{target_of}
use Rattle.rules.specs.Table.{field, target2}
use mathlib.Core.Path.{refl, ◌∙◌}
use Rattle.shape_core.proofs.reach.target_two.Goals as goal

pub returns : goal.returns
unfolding target2 target_of field
returns c = c.target.ensures ∙ rw (c.word.ensures, c.word-2.ensures) refl
