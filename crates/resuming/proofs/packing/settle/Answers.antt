-- `resuming::packing::settle` meets its contract.
use mathlib.Core.Path.{◌∙◌}
use native.Mathlib.Omega.{arith}
use Rattle.resuming.proofs.packing.settle.Goals as goal

pub pack-requires : goal.pack-requires
pack-requires c = let x = c.unpack_links-links.ensures in record { room = x.room; few = rw x.count c.requires; near = omega (arith, c.index.ensures) }

pub returns : goal.returns
returns c = c.pack.ensures ∙ rw (c.unpack_words-z.ensures, c.unpack_links-links.ensures.links, c.index.ensures)
