-- `resuming::packing::unpack_words` meets its contract.
use Rattle.resuming.proofs.packing.unpack_words.Goals as goal

pub returns : goal.returns
returns c = rw c.bit.ensures
