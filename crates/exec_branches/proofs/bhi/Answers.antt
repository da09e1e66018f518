use Rattle.exec_core.specs.Views.{way_of}
use Rattle.rules.specs.Exec.{fork}
use lib.Dec.{ltb}
use Rattle.exec_branches.proofs.bhi.Goals as goal

pub returns-in_default : goal.returns-in_default
returns-in_default c = rw c.in_default.is at (c.compared.ensures (way_of c.args.t.now c.args.b) (λ v w. fork 3 (ltb w v)))

pub returns : goal.returns
returns c = rw c.third_if.ensures (rw c.in-Some.is at (c.compared.ensures (way_of c.args.t.now c.args.b) (λ v w. fork 3 (ltb w v))))
