-- `snap_core::trailer::same_program` meets its contract: each test in turn; the fresh addresses are a part of the table.
use mathlib.Core.Path.{sym, ◌∙◌}
use native.Mathlib.Omega.{arith}
use borrow.Author.Tests.{eq-eqb, ne_eqb}
use Rattle.rules.specs.Snapshot.{same_program}
use Rattle.rules.specs.Table.{fresh_count, size}
use Rattle.rules.proofs.Files.{length-fresh_list}
use Rattle.loading.proofs.Sizes.{sizes}
use Rattle.snap_core.proofs.Tables.{fresh-part, fresh-inside}
use Rattle.snap_core.proofs.Trailers.{and_yes, and_no, same-program, trailed}
use Rattle.snap_core.proofs.trailer.same_program.Goals as goal

pub trailer_word-requires : goal.trailer_word-requires
trailer_word-requires c = (omega (arith, trailed _ c.requires.1), omega arith)

pub returns-then-trailer_word-build : goal.returns-then-trailer_word-build
unfolding same_program
returns-then-trailer_word-build c = sym (and_no _ _ (ne_eqb _ _ (rw c.trailer_word.ensures at c.if-trailer_word-build.true)))

pub trailer_word-requires-2 : goal.trailer_word-requires-2
trailer_word-requires-2 c = (omega (arith, trailed _ c.requires.1), omega arith)

pub bounds-table-0 : goal.bounds-table-0
bounds-table-0 c = omega (arith, sizes _ c.requires.0)

pub returns-then-trailer_word-table : goal.returns-then-trailer_word-table
unfolding same_program size
returns-then-trailer_word-table c =
    sym (and_yes _ _ (eq-eqb _ _ (rw c.trailer_word.ensures at c.if-trailer_word-build.false)) ∙ and_no _ _ (ne_eqb _ _ (rw c.trailer_word-2.ensures at c.if-trailer_word-table.true)))

pub trailer_word-requires-3 : goal.trailer_word-requires-3
trailer_word-requires-3 c = (omega (arith, trailed _ c.requires.1), omega arith)

pub bounds-table-3 : goal.bounds-table-3
bounds-table-3 c = omega (arith, sizes _ c.requires.0)

pub returns-then-trailer_word-table-2 : goal.returns-then-trailer_word-table-2
unfolding same_program size fresh_count
returns-then-trailer_word-table-2 c =
    sym (and_yes _ _ (eq-eqb _ _ (rw c.trailer_word.ensures at c.if-trailer_word-build.false)) ∙ and_yes _ _ (eq-eqb _ _ (rw c.trailer_word-2.ensures at c.if-trailer_word-table.false)) ∙ and_no _ _ (ne_eqb _ _ (rw c.trailer_word-3.ensures at c.if-trailer_word-table-2.true)))

pub overflow_add-to : goal.overflow_add-to
overflow_add-to c = omega (arith, c.fresh_base-from.ensures, c.fresh_count.ensures, fresh-inside _ c.requires.0)

pub offset_bounds-table-from : goal.offset_bounds-table-from
offset_bounds-table-from c = omega (arith, c.fresh_base-from.ensures, c.fresh_count.ensures, fresh-inside _ c.requires.0)

pub slice_bounds-same_words-end : goal.slice_bounds-same_words-end
slice_bounds-same_words-end c = omega (arith, c.fresh_base-from.ensures, c.fresh_count.ensures, fresh-inside _ c.requires.0)

pub same_words-requires : goal.same_words-requires
unfolding fresh_count
same_words-requires c =
    rw (fresh-part _ _ _ c.requires.0 c.fresh_base-from.ensures c.fresh_count.ensures, length-fresh_list) (omega (arith, rw c.trailer_word-3.ensures at c.if-trailer_word-table-2.false, c.fresh_from.ensures, trailed _ c.requires.1))

pub returns : goal.returns
unfolding size fresh_count
returns c =
    c.same_words.ensures ∙ same-program _ _ _ _ _ (rw c.trailer_word.ensures at c.if-trailer_word-build.false) (rw c.trailer_word-2.ensures at c.if-trailer_word-table.false) (rw c.trailer_word-3.ensures at c.if-trailer_word-table-2.false) (fresh-part _ _ _ c.requires.0 c.fresh_base-from.ensures c.fresh_count.ensures) c.fresh_from.ensures
