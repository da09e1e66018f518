use mathlib.Core.Path.{◌∙◌}
use native.Mathlib.Nat.{mod-eq_of_lt}
use Rattle.block_table.proofs.mapped.Goals as goal

pub returns : goal.returns
returns c = (c.char_in.ensures.0 ∙ rw (c.byte_of.ensures, mod-eq_of_lt c.requires.2), c.char_in.ensures.1)
