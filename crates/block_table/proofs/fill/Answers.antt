-- The invariant: the list starts with the first i characters of the table.
use Prim.Native.Nat.{◌+◌}
use mathlib.Core.Path.{refl}
use native.Mathlib.Omega.{arith}
use lib.ListN.{length-set}
use Rattle.rules.specs.Operand.{char_in}
use Rattle.block_table.proofs.Table.{list-more}
use Rattle.block_table.proofs.fill.Goals as goal

pub loop-i-init : goal.loop-i-init
loop-i-init c = (λ j h. absurd (omega (arith, h)), refl)

pub loop-i-preserved : goal.loop-i-preserved
loop-i-preserved c =
    let i = c.loop-i.invariant in
    let a = c.args in
    (rw c.index.ensures (list-more (λ j. char_in a.m.now (a.to + j)) c.loop-i.i _ c.loop-i.list (omega arith) i.0 c.char_in.ensures.0), simp length-set i.1)

pub returns : goal.returns
returns c = λ j h. c.loop-i.invariant.0 j (omega (arith, h))
