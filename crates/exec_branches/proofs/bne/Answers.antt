use mathlib.Core.Bool.{not}
use Rattle.exec_core.specs.Views.{way_of}
use Rattle.rules.specs.Exec.{fork}
use lib.Dec.{eqb}
use Rattle.exec_branches.proofs.bne.Goals as goal

pub returns-in_default : goal.returns-in_default
returns-in_default c = rw c.in_default.is at (c.compared.ensures (way_of c.args.t.now c.args.b) (λ v w. fork 3 (not (eqb v w))))

pub returns : goal.returns
returns c = rw c.third_if.ensures (rw c.in-Some.is at (c.compared.ensures (way_of c.args.t.now c.args.b) (λ v w. fork 3 (not (eqb v w)))))
