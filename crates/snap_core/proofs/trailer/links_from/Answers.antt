-- `snap_core::trailer::links_from` meets its contract.
use native.Mathlib.Omega.{arith}
use Rattle.snap_core.proofs.Trailers.{trailed}
use borrow.Author.Rules.{rules}
use Rattle.snap_core.proofs.trailer.links_from.Goals as goal

pub trailer_word-requires : goal.trailer_word-requires
trailer_word-requires c = (omega (arith, trailed _ c.requires), search rules)
