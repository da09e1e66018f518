-- `exec_reals::compare` meets its contract: RA is compared with zero as is asked for.
use Rattle.exec_core.proofs.Laws.{place-kind}
use Rattle.exec_reals.proofs.Laws.{compares-so}
use Rattle.exec_reals.proofs.compare.Goals as goal

pub first_if-requires : goal.first_if-requires
first_if-requires c = let p = c.requires in (p.inside, p.near, place-kind p.one)

pub returns : goal.returns
returns c = λ m. compares-so _ _ _ m c.args.o c.first_if.ensures c.compares.ensures c.ra.ensures
