-- `vectors::machines::waiting_words` meets its contract: the words, one by one.
use Rattle.std.proofs.Common.{refl}
use Rattle.vectors.specs.Machines.{waiting_words}
use Rattle.vectors.proofs.machines.waiting_words.Goals as goal

pub returns : goal.returns
unfolding waiting_words
returns c = refl
