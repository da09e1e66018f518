-- The cell of a number tells its row.
use native.Mathlib.Omega.{arith}
use Rattle.op_lookup.proofs.Index.{past_index, slot-free, slot_row}
use Rattle.op_lookup.proofs.numbers.find_number.Goals as goal

pub returns-then-k-ge-NUMBERS : goal.returns-then-k-ge-NUMBERS
returns-then-k-ge-NUMBERS c = past_index c.args.n c.if-k-ge-NUMBERS.true

pub returns-then-row : goal.returns-then-row
returns-then-row c =
    let a = c in
    slot-free a.args.index.now a.requires a.args.n (omega arith) c.if-row.true

pub returns : goal.returns
returns c =
    let a = c in
    rw c.wide.ensures.0 (slot_row a.args.index.now a.requires a.args.n (omega arith) c.if-row.false)
