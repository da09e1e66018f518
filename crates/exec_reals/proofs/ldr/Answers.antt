use Rattle.real_rules.proofs.Laws.{proper-real}
use Rattle.exec_reals.proofs.Laws.{load-missing, load-words, proper-is}
use Rattle.exec_reals.proofs.ldr.Goals as goal

pub returns-in_default : goal.returns-in_default
returns-in_default c = load-missing _ _ _ _ _ c.load.ensures c.in_default.is

pub settle-requires : goal.settle-requires
settle-requires c = proper-is c.real_of-x.ensures (proper-real _ _)

pub returns : goal.returns
returns c = load-words _ _ _ _ _ c.load.ensures c.in-Some.is c.settle.ensures c.real_of-x.ensures
