-- `shapes::cards::esw_ok` meets its contract: each return rewrites with the tests that led there.
use Rattle.table_layout.proofs.Belows.{and-true}
use mathlib.Core.Path.{sym, ◌∙◌}
use Rattle.shapes.proofs.cards.esw_ok.Goals as goal

pub returns : goal.returns
returns c = c.below_iff.ensures ∙ sym (and-true _)
