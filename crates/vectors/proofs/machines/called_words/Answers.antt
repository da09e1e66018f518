-- `vectors::machines::called_words` meets its contract: the words, one by one.
use Rattle.std.proofs.Common.{refl}
use Rattle.vectors.specs.Machines.{called_words}
use Rattle.vectors.proofs.machines.called_words.Goals as goal

pub returns : goal.returns
unfolding called_words
returns c = refl
