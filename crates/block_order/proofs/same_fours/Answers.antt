use native.Mathlib.Omega.{arith}
use Rattle.block_order.proofs.Order.{skips-at}
use Rattle.block_order.proofs.same_fours.Goals as goal

pub index-f-requires : goal.index-f-requires
index-f-requires c = tt

pub index-g-requires : goal.index-g-requires
index-g-requires c = tt

pub index-requires : goal.index-requires
index-requires c = tt

pub same_words-requires : goal.same_words-requires
same_words-requires c = (omega arith, omega arith)

pub overflow_cast-result : goal.overflow_cast-result
overflow_cast-result c = record { fits = omega arith }

pub returns-then-r-eq0 : goal.returns-then-r-eq0
returns-then-r-eq0 c = (omega arith, skips-at c.same_words.result c.args.m.now (omega (arith, c.index-f.ensures, c.if-r-eq0.true)) (omega (arith, c.index-g.ensures, c.requires.2)) c.same_words.ensures.1)

pub index-requires-2 : goal.index-requires-2
index-requires-2 c = tt

pub same_merged-requires : goal.same_merged-requires
same_merged-requires c = (omega arith, omega arith, omega arith, omega arith)

pub overflow_cast-result-2 : goal.overflow_cast-result-2
overflow_cast-result-2 c = record { fits = omega arith }

pub returns : goal.returns
returns c = (omega arith, skips-at c.same_merged.result c.args.m.now (omega (arith, c.index-f.ensures)) (omega (arith, c.index-g.ensures, c.requires.2)) c.same_merged.ensures.1)
