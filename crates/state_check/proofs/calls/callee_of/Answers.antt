-- `state_check::calls::callee_of` meets its contract, by the words of the two entries. Assumes nothing.
use Rattle.state_check.proofs.Called.{calls-named, calls-other, calls-past, calls-unnamed, names-kind, names-prc, other-prc, past-prc}
use native.Mathlib.Omega.{arith}
use Rattle.state_check.proofs.calls.callee_of.Goals as goal

pub returns-then-n-j : goal.returns-then-n-j
returns-then-n-j c =
    let args = c.args in
    calls-past args.t.now args.j (omega arith)

pub returns-then-t-j-ne-JSR : goal.returns-then-t-j-ne-JSR
returns-then-t-j-ne-JSR c =
    let args = c.args in
    calls-other args.t.now args.j (omega arith) c.if-t-j-ne-JSR.true

pub returns-then-t-j-ne-PLACE_KIND : goal.returns-then-t-j-ne-PLACE_KIND
returns-then-t-j-ne-PLACE_KIND c =
    let args = c.args in
    calls-unnamed args.t.now args.j (λ h. c.if-t-j-ne-PLACE_KIND.true (names-kind args.t.now args.j h))

pub returns-then-n-q : goal.returns-then-n-q
returns-then-n-q c =
    let args = c.args in
    let t = args.t.now in
    let j = args.j in
    calls-unnamed t j (λ h. past-prc _ _ (omega (arith, c.index-q.ensures)) (names-prc t j h))

pub returns-then-t-q-ne-PRC : goal.returns-then-t-q-ne-PRC
returns-then-t-q-ne-PRC c =
    let args = c.args in
    let index = c.index-q in
    let t = args.t.now in
    let j = args.j in
    calls-unnamed t j (λ h. other-prc t index.result (omega arith) c.if-t-q-ne-PRC.true (rw index.ensures (names-prc t j h)))

pub returns : goal.returns
returns c =
    let args = c.args in
    let index = c.index-q in
    let if2 = c.if-t-j-ne-JSR in
    let if3 = c.if-t-j-ne-PLACE_KIND in
    calls-named args.t.now args.j index.result (omega arith) (omega arith) index.ensures if2.false if3.false
    c.if-t-q-ne-PRC.false
