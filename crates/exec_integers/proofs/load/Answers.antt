use mathlib.Core.Path.{◌∙◌}
use Rattle.exec_core.proofs.Laws.{reads}
use Rattle.exec_integers.proofs.load.Goals as goal

pub fetch-requires : goal.fetch-requires
fetch-requires c = (rw c.operand.ensures (reads c.requires.one), c.requires.zero)

pub returns : goal.returns
returns c = c.fetch.ensures ∙ rw c.operand.ensures
