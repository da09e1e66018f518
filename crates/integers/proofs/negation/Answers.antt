-- `integers::negation` meets its contract: 0 less the word.
use mir.Syntax.{w64}
use mathlib.Core.Path.{◌∙◌}
use mir.Facts.{to_z-of_z}
use Rattle.integers.proofs.Wide.{zero-less}
use Rattle.integers.proofs.negation.Goals as goal

pub returns : goal.returns
returns c =
    to_z-of_z {w = w64} (record { sfits = c.difference.type_inv }) ∙ c.difference.ensures ∙ zero-less c.args.a
