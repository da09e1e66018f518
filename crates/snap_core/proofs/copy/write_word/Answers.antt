-- `snap_core::copy::write_word` meets its contract: four stores are one put.
use native.Mathlib.Omega.{arith}
use lib.ListN.{length-set}
use Rattle.snap_core.proofs.Puts.{put-stores}
use Rattle.snap_core.proofs.copy.write_word.Goals as goal

pub bounds-file-at-2 : goal.bounds-file-at-2
bounds-file-at-2 c = simp length-set (omega arith)

pub bounds-file-at-3 : goal.bounds-file-at-3
bounds-file-at-3 c = simp length-set (omega arith)

pub bounds-file-at-4 : goal.bounds-file-at-4
bounds-file-at-4 c = simp length-set (omega arith)

pub returns : goal.returns
returns c = put-stores _ _ _ _ c.bytes_of-b.ensures c.requires
