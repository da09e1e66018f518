use mathlib.Core.Bool.{not}
use Rattle.exec_core.specs.Views.{way_of}
use Rattle.exec_core.proofs.Laws.{place-kind}
use Rattle.rules.specs.Exec.{fork}
use lib.Dec.{eqb}
use Rattle.exec_branches.proofs.nzb.Goals as goal

pub returns-in_default : goal.returns-in_default
returns-in_default c = rw c.in_default.is at (c.taken.ensures (way_of c.args.t.now c.args.b) (λ v. fork 2 (not (eqb v 0))))

pub second_if-requires : goal.second_if-requires
second_if-requires c = (c.requires.inside, c.requires.near, place-kind c.requires.two)

pub returns : goal.returns
returns c = rw c.second_if.ensures (rw c.in-Some.is at (c.taken.ensures (way_of c.args.t.now c.args.b) (λ v. fork 2 (not (eqb v 0)))))
