-- The invariant: the first i are raised.
use Prim.Native.Nat.{◌*◌}
use mathlib.Core.Path.{refl}
use native.Mathlib.Omega.{arith}
use lib.ListN.{length-set}
use Rattle.base.specs.Lists.{◌at◌}
use Rattle.block_table.proofs.Table.{list-more}
use Rattle.block_table.proofs.raise.Goals as goal

pub loop-i-init : goal.loop-i-init
loop-i-init c = (λ j h. absurd (omega (arith, h)), refl)

pub overflow_mul-raised : goal.overflow_mul-raised
overflow_mul-raised c = omega (arith, c.requires.2 c.loop-i.i (omega arith))

pub loop-i-preserved : goal.loop-i-preserved
loop-i-preserved c =
    let l = c.loop-i in
    (list-more (λ j. c.args.list.now at j * 256) l.i _ l.raised (omega arith) l.invariant.0 refl, simp length-set l.invariant.1)

pub returns : goal.returns
returns c = λ j h. c.loop-i.invariant.0 j (omega (arith, h))
