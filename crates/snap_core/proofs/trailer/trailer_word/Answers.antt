-- `snap_core::trailer::trailer_word` meets its contract.
use Rattle.rules.specs.Snapshot.{trailer_word}
use Rattle.snap_core.proofs.trailer.trailer_word.Goals as goal

pub returns : goal.returns
unfolding trailer_word
returns c = c.read_word.ensures
