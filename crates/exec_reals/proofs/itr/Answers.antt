use Rattle.real_rules.proofs.Laws.{proper-word}
use Rattle.exec_reals.proofs.Laws.{settles, proper-is}
use Rattle.exec_reals.proofs.itr.Goals as goal

pub settle-requires : goal.settle-requires
settle-requires c = proper-is c.of_word-x.ensures (proper-word _)

pub returns : goal.returns
returns c = λ m. settles _ _ m c.settle.ensures c.of_word-x.ensures
