-- `snap_core::copy::read_word` meets its contract.
use Rattle.rules.specs.Snapshot.{word_in}
use Rattle.snap_core.proofs.copy.read_word.Goals as goal

pub returns : goal.returns
unfolding word_in
returns c = c.word_of.ensures
