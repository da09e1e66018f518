-- `shape_core::reach::target_one` meets its contract: the kind and the value are words 1 and 3 of the entry.
use Rattle.shape_core.specs.Known.{target_of}
use Rattle.rules.specs.Table.{field, target1}
use mathlib.Core.Path.{refl, ◌∙◌}
use Rattle.shape_core.proofs.reach.target_one.Goals as goal

pub returns : goal.returns
unfolding target1 target_of field
returns c = c.target.ensures ∙ rw (c.word.ensures, c.word-2.ensures) refl
