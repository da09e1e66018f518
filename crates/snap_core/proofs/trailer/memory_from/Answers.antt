-- `snap_core::trailer::memory_from` meets its contract.
use native.Mathlib.Omega.{arith}
use Rattle.snap_core.proofs.Trailers.{trailed}
use borrow.Author.Rules.{rules}
use Rattle.snap_core.proofs.trailer.memory_from.Goals as goal

pub trailer_word-requires : goal.trailer_word-requires
trailer_word-requires c = (omega (arith, trailed _ c.requires), search rules)

pub overflow_sub-result : goal.overflow_sub-result
overflow_sub-result c = omega (arith, c.index.ensures, c.trailer_word.ensures, trailed _ c.requires)
