use native.Mathlib.Omega.{arith}
use mathlib.Core.Path.{◌∙◌}
use Rattle.rules.specs.Operand.{char_in}
use Rattle.words.proofs.Laws.{byte_of-lt}
use Rattle.block_chars.proofs.char_in.Goals as goal

pub index-requires : goal.index-requires
index-requires c = tt

pub offset_bounds-m-index : goal.offset_bounds-m-index
offset_bounds-m-index c = omega arith

pub bounds-m-index : goal.bounds-m-index
bounds-m-index c = omega arith

pub byte_of-requires : goal.byte_of-requires
byte_of-requires c = tt

pub returns : goal.returns
unfolding char_in
returns c = (c.byte_of.ensures ∙ rw c.index.ensures, rw c.byte_of.ensures (byte_of-lt _ _))
