-- `shapes::cards::enp_ok` meets its contract: each return rewrites with the tests that led there.
use Rattle.table_layout.proofs.Belows.{and-true}
use mathlib.Core.Bool.{not}
use mathlib.Core.Path.{sym, ap, ◌∙◌}
use Rattle.shapes.proofs.cards.enp_ok.Goals as goal

pub returns : goal.returns
returns c = ap not c.is_outside.ensures ∙ sym (and-true _)
