-- `snap_core::real_word` meets its contract.
use mathlib.Core.Path.{ap, ◌∙◌}
use Rattle.rules.specs.Snapshot.{Form}
use Rattle.snap_core.specs.Forms.{form_view}
use native.Mathlib.Omega.{arith}
use Rattle.snap_core.proofs.Trailers.{real-none, real-there}
use Rattle.snap_core.proofs.trailer.real_word.Goals as goal

pub returns-then-form-eq0 : goal.returns-then-form-eq0
returns-then-form-eq0 c = real-none _ _ _ c.form_in-form.ensures.0 c.if-form-eq0.true

pub overflow_sub-file : goal.overflow_sub-file
overflow_sub-file c =
    omega (arith, c.trailer_bytes.ensures, ap (λ (f : Form). f.reals) c.form_in-form.ensures.0, c.requires.1)

pub returns : goal.returns
returns c =
    c.read_word.ensures
    ∙ real-there _ _ (form_view c.form_in-form.result) c.form_in-form.ensures.0 _ c.if-form-eq0.false
    (omega (arith, c.trailer_bytes.ensures))
