-- `state_check::passing::memory_fits` meets its contract. Assumes nothing.
use Rattle.state_check.proofs.Judged.{memory-left, memory-long, memory-short}
use native.Mathlib.Omega.{arith}
use Rattle.state_check.proofs.passing.memory_fits.Goals as goal

pub returns-then-len-lt-MIN_MEMORY : goal.returns-then-len-lt-MIN_MEMORY
returns-then-len-lt-MIN_MEMORY c =
    let args = c.args in
    memory-short args.t.now args.len c.if-len-lt-MIN_MEMORY.true

pub returns-then-len-gt-MAX_MEMORY : goal.returns-then-len-gt-MAX_MEMORY
returns-then-len-gt-MAX_MEMORY c =
    let args = c.args in
    memory-long args.t.now args.len c.if-len-gt-MAX_MEMORY.true

pub overflow_add-result : goal.overflow_add-result
overflow_add-result c =
    let shared-slice-known = c.shared_slice_known-1 in
    let index = c.index in
    omega (arith, shared-slice-known.given 1, shared-slice-known.given 2, index.ensures, c.index-2.ensures)

pub overflow_add-result-2 : goal.overflow_add-result-2
overflow_add-result-2 c =
    let shared-slice-known = c.shared_slice_known-1 in
    let index = c.index in
    omega (arith, shared-slice-known.given 1, shared-slice-known.given 2, index.ensures, c.index-2.ensures)

pub returns : goal.returns
returns c =
    let args = c.args in
    let index = c.index in
    memory-left args.t.now args.len index.result c.index-2.result index.ensures c.index-2.ensures
    (omega arith) (omega arith)
