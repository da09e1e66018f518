-- `snap_core::layout::written_length` meets its contract.
use mathlib.Core.Path.{ap}
use native.Mathlib.Omega.{arith}
use Rattle.rules.specs.Snapshot.{Form}
use Rattle.snap_core.proofs.layout.written_length.Goals as goal

pub file_length-requires : goal.file_length-requires
file_length-requires c = c.new_form.ensures.1

pub returns : goal.returns
returns c = omega (arith, c.file_length.ensures, ap (λ (f : Form). f.reals) c.new_form.ensures.0)
