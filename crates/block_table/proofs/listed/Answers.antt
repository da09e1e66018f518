use native.Mathlib.Nat.{mod-eq_of_lt}
use Rattle.block_table.proofs.listed.Goals as goal

pub returns : goal.returns
returns c = rw (c.index.ensures, c.byte_of.ensures, mod-eq_of_lt c.requires.1)
