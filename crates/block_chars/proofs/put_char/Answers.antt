use native.Mathlib.Omega.{arith}
use native.Mathlib.Nat.{mod-eq_of_lt}
use Rattle.rules.specs.Operand.{with_char}
use Rattle.block_chars.proofs.put_char.Goals as goal

pub index-i-requires : goal.index-i-requires
index-i-requires c = tt

pub offset_bounds-m-i : goal.offset_bounds-m-i
offset_bounds-m-i c = omega arith

pub bounds-m-i : goal.bounds-m-i
bounds-m-i c = omega arith

pub with_byte-requires : goal.with_byte-requires
with_byte-requires c = tt

pub offset_bounds-m-i-2 : goal.offset_bounds-m-i-2
offset_bounds-m-i-2 c = omega arith

pub bounds-m-i-2 : goal.bounds-m-i-2
bounds-m-i-2 c = omega arith

pub returns : goal.returns
unfolding with_char
returns c = rw (c.with_byte.ensures, c.index-i.ensures, mod-eq_of_lt c.requires.1)
