-- `snap_core::form_in` meets its contract.
use mathlib.Core.Path.{◌≡◌, sym, ap, ◌∙◌}
use native.Mathlib.Omega.{arith}
use Rattle.rules.specs.Snapshot.{Form, file_length, fresh_in, links_in, memory_in, old_form}
use Rattle.snap_core.proofs.Trailers.{form-new, form-old}
use Rattle.snap_core.proofs.trailer.form_in.Goals as goal

pub file_length-requires : goal.file_length-requires
file_length-requires c = c.old_form.ensures.1

pub returns-then-len-file_length : goal.returns-then-len-file_length
returns-then-len-file_length c =
    let e : c.old_form.result.reals ≡ 0 = ap (λ (f : Form). f.reals) c.old_form.ensures.0 in
    let n : c.file_length.result ≡ file_length old_form (memory_in c.args.file.now) (links_in c.args.file.now) (fresh_in c.args.file.now) =
    omega (arith, c.file_length.ensures, e, c.trailer_word-f.ensures, c.trailer_word-k.ensures, c.trailer_word-m.ensures) in
    (c.old_form-then-len-file_length.ensures.0 ∙ sym (form-old _ _ _ c.trailer_word-len.ensures n c.if-len-file_length.true), c.old_form-then-len-file_length.ensures.1)

pub returns : goal.returns
returns c =
    let e : c.old_form.result.reals ≡ 0 = ap (λ (f : Form). f.reals) c.old_form.ensures.0 in
    let n : c.file_length.result ≡ file_length old_form (memory_in c.args.file.now) (links_in c.args.file.now) (fresh_in c.args.file.now) =
    omega (arith, c.file_length.ensures, e, c.trailer_word-f.ensures, c.trailer_word-k.ensures, c.trailer_word-m.ensures) in
    (c.new_form.ensures.0 ∙ sym (form-new _ _ _ c.trailer_word-len.ensures n c.if-len-file_length.false), c.new_form.ensures.1)
