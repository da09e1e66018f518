-- `snap_core::values_ok` meets its contract.
use mathlib.Core.Path.{sym, ◌∙◌}
use borrow.Author.Tests.{le-leb, lt-leb}
use Rattle.snap_core.proofs.Trailers.{and_no, and_yes}
use Rattle.snap_core.proofs.trailer.values_ok.Goals as goal

pub returns-then-trailer_word-gt1 : goal.returns-then-trailer_word-gt1
returns-then-trailer_word-gt1 c = sym (and_no _ _ (lt-leb _ _ (rw c.trailer_word.ensures at c.if-trailer_word-gt1.true)))

pub returns-then-trailer_word-gt1-2 : goal.returns-then-trailer_word-gt1-2
returns-then-trailer_word-gt1-2 c = sym (and_yes _ _ (le-leb _ _ (rw c.trailer_word.ensures at c.if-trailer_word-gt1.false)) ∙ and_no _ _ (lt-leb _ _ (rw c.trailer_word-2.ensures at c.if-trailer_word-gt1-2.true)))

pub returns : goal.returns
returns c =
    c.reals_ok.ensures
    ∙ rw (c.real_word.ensures, c.real_word-2.ensures)
    (sym (and_yes _ _ (le-leb _ _ (rw c.trailer_word.ensures at c.if-trailer_word-gt1.false))
    ∙ and_yes _ _ (le-leb _ _ (rw c.trailer_word-2.ensures at c.if-trailer_word-gt1-2.false))))
