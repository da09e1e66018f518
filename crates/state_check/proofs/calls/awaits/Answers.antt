-- `state_check::calls::awaits` meets its contract, by the words of the entry. Assumes nothing.
use Rattle.state_check.proofs.Called.{wait-kind, wait-named, wait-other, wait-past}
use native.Mathlib.Omega.{arith}
use Rattle.state_check.proofs.calls.awaits.Goals as goal

pub returns-then-n-p : goal.returns-then-n-p
returns-then-n-p c = wait-past c.args.t.now c.args.p (omega arith)

pub returns-then-t-p-ne-JSR : goal.returns-then-t-p-ne-JSR
returns-then-t-p-ne-JSR c =
    let args = c.args in
    wait-other args.t.now args.p (omega arith) c.if-t-p-ne-JSR.true

pub returns-then-kind-ne-EXTERNAL_KIND : goal.returns-then-kind-ne-EXTERNAL_KIND
returns-then-kind-ne-EXTERNAL_KIND c =
    let args = c.args in
    wait-kind args.t.now args.p c.if-kind-ne-EXTERNAL_KIND.true

pub returns : goal.returns
returns c =
    let args = c.args in
    let if2 = c.if-t-p-ne-JSR in
    let if3 = c.if-kind-ne-EXTERNAL_KIND in
    wait-named args.t.now args.p (omega arith) if2.false if3.false
