-- `machine::running::run_awake` meets its contract: the state is unpacked, the loop runs, and what it leaves is packed.
use Prim.Native.Nat.{◌+◌, ◌*◌}
use mathlib.Core.Path.{◌≡◌, refl}
use native.Mathlib.Omega.{arith}
use Rattle.rules.specs.Table.{constants, entry_at}
use Rattle.bodies.proofs.Places.{entries-of}
use Rattle.exec_core.specs.Seen.{place_of}
use Rattle.resuming.proofs.Granted.{few-open}
use Rattle.machine.proofs.Promised.{unpacked-runs, halted-answer, halted-packs, run-ended}
use Rattle.machine.proofs.running.run_awake.Goals as goal

pub unpack_links-links-requires : goal.unpack_links-links-requires
unpack_links-links-requires c = few-open _ _ _ c.requires.0

pub bounds-table-1 : goal.bounds-table-1
bounds-table-1 c = let e = entries-of c.args.table.now _ c.requires.0.table refl in omega arith

pub take_steps-h-requires : goal.take_steps-h-requires
unfolding constants
take_steps-h-requires c = let e : 8 + 8 * c.index.result ≡ entry_at c.args.state.pc = rw c.index.ensures in unpacked-runs _ _ _ c.requires.0 _ _ _ c.requires.2 e c.unpack_words-z.ensures c.unpack_links-links.ensures _ c.index-2.ensures

pub pack-last-requires : goal.pack-last-requires
unfolding place_of
pack-last-requires c = let e : 8 + 8 * c.index.result ≡ entry_at c.args.state.pc = rw c.index.ensures in halted-packs _ _ _ c.requires.0 _ _ _ c.requires.2 e c.unpack_words-z.ensures c.unpack_links-links.ensures _ c.requires.1 _ _ _ _ c.take_steps-h.ensures

pub steps_taken-requires : goal.steps_taken-requires
steps_taken-requires c = (c.take_steps-h.ensures.rest, c.requires.1)

pub returns : goal.returns
unfolding place_of
returns c = let e : 8 + 8 * c.index.result ≡ entry_at c.args.state.pc = rw c.index.ensures in run-ended _ _ _ c.requires.0 _ _ _ c.ending.result _ _ _ c.ending.ensures (halted-answer _ _ _ c.requires.0 _ _ _ c.requires.2 e c.unpack_words-z.ensures c.unpack_links-links.ensures _ c.requires.1 _ _ _ _ c.take_steps-h.ensures) (rw (c.pack-last.ensures, c.steps_taken.ensures)) refl
