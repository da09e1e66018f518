-- `snap_core::trailer::fresh_from` meets its contract.
use native.Mathlib.Omega.{arith}
use Rattle.snap_core.proofs.Trailers.{trailed}
use borrow.Author.Rules.{rules}
use Rattle.snap_core.proofs.trailer.fresh_from.Goals as goal

pub trailer_word-requires : goal.trailer_word-requires
trailer_word-requires c = (omega (arith, trailed _ c.requires), search rules)

pub overflow_add-result : goal.overflow_add-result
overflow_add-result c = omega (arith, c.index.ensures, c.trailer_word.ensures, c.links_from.ensures, trailed _ c.requires)
