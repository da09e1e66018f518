-- `snapshot::frozen::frozen_state` meets its contract: each word of the trailer in its field.
use native.Mathlib.Omega.{arith}
use Rattle.rules.specs.Snapshot.{frozen_in}
use Rattle.rules.proofs.Bytes.{length-words_in}
use Rattle.snap_core.proofs.Trailers.{trailed, trailer-room}
use Rattle.snapshot.proofs.frozen.frozen_state.Goals as goal

pub frozen_links-links-requires : goal.frozen_links-links-requires
frozen_links-links-requires c = c.requires

pub trailer_word-requires : goal.trailer_word-requires
trailer_word-requires c = (omega (arith, trailed _ c.requires.0), omega arith)

pub trailer_word-requires-2 : goal.trailer_word-requires-2
trailer_word-requires-2 c = (omega (arith, trailed _ c.requires.0), omega arith)

pub trailer_word-requires-3 : goal.trailer_word-requires-3
trailer_word-requires-3 c = (omega (arith, trailed _ c.requires.0), omega arith)

pub trailer_word-requires-4 : goal.trailer_word-requires-4
trailer_word-requires-4 c = (omega (arith, trailed _ c.requires.0), omega arith)

pub trailer_word-requires-5 : goal.trailer_word-requires-5
trailer_word-requires-5 c = (omega (arith, trailed _ c.requires.0), omega arith)

pub trailer_word-requires-6 : goal.trailer_word-requires-6
trailer_word-requires-6 c = (omega (arith, trailed _ c.requires.0), omega arith)

pub trailer_word-requires-7 : goal.trailer_word-requires-7
trailer_word-requires-7 c = (omega (arith, trailed _ c.requires.0), omega arith)

pub trailer_word-requires-8 : goal.trailer_word-requires-8
trailer_word-requires-8 c = (omega (arith, trailed _ c.requires.0), omega arith)

pub trailer_word-requires-9 : goal.trailer_word-requires-9
trailer_word-requires-9 c = (omega (arith, trailed _ c.requires.0), omega arith)

pub trailer_word-requires-10 : goal.trailer_word-requires-10
trailer_word-requires-10 c = (omega (arith, trailed _ c.requires.0), omega arith)

pub trailer_word-requires-11 : goal.trailer_word-requires-11
trailer_word-requires-11 c = (omega (arith, trailed _ c.requires.0), omega arith)

pub real_word-requires : goal.real_word-requires
real_word-requires c =
    let ok = c.requires.0 in
    (omega (arith, trailed _ ok), trailer-room _ ok, omega arith)

pub real_word-requires-2 : goal.real_word-requires-2
real_word-requires-2 c =
    let ok = c.requires.0 in
    (omega (arith, trailed _ ok), trailer-room _ ok, omega arith)

pub real_word-requires-3 : goal.real_word-requires-3
real_word-requires-3 c =
    let ok = c.requires.0 in
    (omega (arith, trailed _ ok), trailer-room _ ok, omega arith)

pub returns : goal.returns
unfolding frozen_in
returns c = rw (length-words_in, c.frozen_links-links.ensures, c.trailer_word.ensures, c.trailer_word-2.ensures, c.trailer_word-3.ensures, c.trailer_word-4.ensures, c.trailer_word-5.ensures, c.trailer_word-6.ensures, c.trailer_word-7.ensures, c.trailer_word-8.ensures, c.trailer_word-9.ensures, c.trailer_word-10.ensures, c.trailer_word-11.ensures, c.real_word.ensures, c.real_word-2.ensures, c.real_word-3.ensures)
