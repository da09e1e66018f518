-- `asm_collect::labels::letter_of` meets its contract: the test of the sort by its number.
use mathlib.Core.Path.{sym}
use native.Mathlib.Omega.{arith}
use borrow.Author.Tests.{eq-eqb, ne_eqb}
use Rattle.base.specs.Test.{if}
use Rattle.asm_symbols.proofs.Sorts.{is-sort}
use Rattle.asm_collect.proofs.labels.letter_of.Goals as goal

pub returns-then-sort-ne-INTERNAL : goal.returns-then-sort-ne-INTERNAL
unfolding if
returns-then-sort-ne-INTERNAL c = rw (is-sort 2 c.args.sort (omega arith) c.requires.1, ne_eqb 2 c.args.sort (λ q. c.if-sort-ne-INTERNAL.true (sym q)))

pub returns : goal.returns
unfolding if
returns c = rw (is-sort 2 c.args.sort (omega arith) c.requires.1, eq-eqb 2 c.args.sort (sym c.if-sort-ne-INTERNAL.false)) c.value_at.ensures
