use Rattle.exec_core.proofs.Laws.{place-kind}
use Rattle.exec_branches.proofs.igt.Goals as goal

pub first_if-requires : goal.first_if-requires
first_if-requires c = (c.requires.inside, c.requires.near, place-kind c.requires.one)

pub returns : goal.returns
returns c = λ k m. rw (c.first_if.ensures, c.positive.ensures)
