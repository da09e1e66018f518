-- `snap_core::length_ok` meets its contract.
use mathlib.Core.Path.{◌≡◌, sym, ap, ◌∙◌}
use native.Mathlib.Omega.{arith}
use Rattle.rules.specs.Snapshot.{Form, file_length, form_in, fresh_in, length_in, links_in, memory_in}
use borrow.Author.Tests.{eq-eqb, ne_eqb}
use Rattle.snap_core.proofs.Trailers.{and_no, and_yes}
use Rattle.snap_core.proofs.trailer.length_ok.Goals as goal

pub returns-then-len-file_length : goal.returns-then-len-file_length
returns-then-len-file_length c =
    let file = c.args.file.now in
    let e : c.form_in.result.reals ≡ (form_in file).reals = ap (λ (f : Form). f.reals) c.form_in.ensures.0 in
    let n : c.file_length.result ≡ file_length (form_in file) (memory_in file) (links_in file) (fresh_in file) =
    omega (arith, c.file_length.ensures, e, c.trailer_word-f.ensures, c.trailer_word-k.ensures, c.trailer_word-m.ensures) in
    sym (and_no _ _ (ne_eqb _ _ (λ q. c.if-len-file_length.true (c.trailer_word-len.ensures ∙ q ∙ sym n))))

pub returns : goal.returns
returns c =
    let file = c.args.file.now in
    let e : c.form_in.result.reals ≡ (form_in file).reals = ap (λ (f : Form). f.reals) c.form_in.ensures.0 in
    let n : c.file_length.result ≡ file_length (form_in file) (memory_in file) (links_in file) (fresh_in file) =
    omega (arith, c.file_length.ensures, e, c.trailer_word-f.ensures, c.trailer_word-k.ensures, c.trailer_word-m.ensures) in
    let l : c.index.result ≡ length_in file = c.index.ensures ∙ c.trailer_word-len.ensures in
    rw l (sym (and_yes _ _ (eq-eqb _ _ (sym c.trailer_word-len.ensures ∙ c.if-len-file_length.false ∙ n))))
