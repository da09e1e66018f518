-- The form of a file as the code holds it.
-- Assumes nothing.
use Rattle.rules.specs.Snapshot as Snapshot
use Rattle.snap_core.specs.declared.layout.Form.{Form}

abbrev pub form_view : Form → Snapshot.Form
form_view f = record { reals = f.reals }
