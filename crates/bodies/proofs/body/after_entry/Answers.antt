-- `states::body::after_entry` meets its contract, by the number of the operation. Assumes nothing.
use Rattle.bodies.proofs.Places.{after-prc, after-enp, after-other}
use Rattle.bodies.proofs.body.after_entry.Goals as goal

pub returns-then-op-eq-PRC : goal.returns-then-op-eq-PRC
returns-then-op-eq-PRC c = after-prc c.args.op c.args.p c.args.b c.if-op-eq-PRC.true

pub returns-then-op-eq-ENP : goal.returns-then-op-eq-ENP
returns-then-op-eq-ENP c =
    let args = c.args in
    after-enp args.op args.p args.b c.if-op-eq-ENP.true

pub returns : goal.returns
returns c =
    let args = c.args in
    after-other args.op args.p args.b c.if-op-eq-PRC.false c.if-op-eq-ENP.false
