-- `snap_core::trailer_ok` meets its contract.
use mathlib.Core.Path.{◌≡◌, sym, ◌∙◌}
use mathlib.Core.Bool.{true}
use borrow.Author.Tests.{lt-leb}
use Rattle.rules.specs.Snapshot.{memory_in, trailer_ok}
use Rattle.snap_core.proofs.Trailers.{and_no, and_yes, length_true, trailer-inside, trailer-parts}
use Rattle.snap_core.proofs.trailer.trailer_ok.Goals as goal

pub returns-then-file-lt-TRAILER : goal.returns-then-file-lt-TRAILER
unfolding trailer_ok
returns-then-file-lt-TRAILER c = sym (and_no _ _ (lt-leb _ _ c.if-file-lt-TRAILER.true))

pub returns-then-not-length_ok : goal.returns-then-not-length_ok
unfolding length_true
returns-then-not-length_ok c =
    sym (trailer-parts c.args.file.now c.if-file-lt-TRAILER.false
    ∙ and_no _ _ (sym c.length_ok.ensures ∙ c.if-not-length_ok.true))

pub returns-then-not-memory_ok : goal.returns-then-not-memory_ok
unfolding length_true
returns-then-not-memory_ok c =
    let t : length_true c.args.file.now ≡ true = sym c.length_ok.ensures ∙ c.if-not-length_ok.false in
    let m : c.index.result ≡ memory_in c.args.file.now = c.index.ensures ∙ c.trailer_word.ensures in
    sym (trailer-parts c.args.file.now c.if-file-lt-TRAILER.false ∙ and_yes _ _ t
    ∙ and_no _ _ (rw (← m) (sym c.memory_ok.ensures ∙ c.if-not-memory_ok.true)))

pub values_ok-requires : goal.values_ok-requires
unfolding length_true
values_ok-requires c =
    let t : length_true c.args.file.now ≡ true = sym c.length_ok.ensures ∙ c.if-not-length_ok.false in
    (c.if-file-lt-TRAILER.false, trailer-inside c.args.file.now t)

pub returns : goal.returns
unfolding length_true
returns c =
    let t : length_true c.args.file.now ≡ true = sym c.length_ok.ensures ∙ c.if-not-length_ok.false in
    let m : c.index.result ≡ memory_in c.args.file.now = c.index.ensures ∙ c.trailer_word.ensures in
    c.values_ok.ensures
    ∙ sym (trailer-parts c.args.file.now c.if-file-lt-TRAILER.false ∙ and_yes _ _ t
    ∙ and_yes _ _ (rw (← m) (sym c.memory_ok.ensures ∙ c.if-not-memory_ok.false)))
