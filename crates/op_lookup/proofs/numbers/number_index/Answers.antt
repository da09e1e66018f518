-- The index of the rows before row k.
use native.Mathlib.Omega.{arith}
use mathlib.Core.Path.{◌≡◌}
use Rattle.op_lookup.proofs.Index.{index-begun, index-more, index-whole, number-below, number-here}
use Rattle.op_lookup.proofs.numbers.number_index.Goals as goal

pub loop-k-init : goal.loop-k-init
loop-k-init c = (omega arith, index-begun)

pub bounds-index-n : goal.bounds-index-n
bounds-index-n c =
    let l = c in
    rw (number-here l.args.table.now l.requires l.loop-k.k _ (omega arith) c.number_of-n.ensures.0) (number-below l.loop-k.k (omega arith))

pub loop-k-preserved : goal.loop-k-preserved
loop-k-preserved c =
    let l = c in (
      omega arith,
      rw (number-here l.args.table.now l.requires l.loop-k.k _ (omega arith) c.number_of-n.ensures.0)
          (index-more l.loop-k.k l.loop-k.index (omega arith) l.loop-k.invariant.1),
    )

pub returns : goal.returns
returns c =
    let z : c.loop-k.k ≡ 106 = omega arith in
    index-whole c.loop-k.index (rw (← z) c.loop-k.invariant.1)
