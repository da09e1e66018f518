-- `asm_symbols::list::SymbolList::next_above`: i is a symbol of the name, or n, and none before it stands above the line.
use Prim.Native.Nat.{◌+◌}
use mathlib.Core.Path.{◌∙◌}
use native.Mathlib.Omega.{arith}
use Rattle.asm_symbols.proofs.Walks.{above-past, above_same}
use Rattle.asm_symbols.proofs.list.SymbolList.next_above.Goals as goal

pub loop-i-init : goal.loop-i-init
loop-i-init c =
    let e = c.next_named-i.ensures in
    (e.inside, e.here, above_same c.args.self.now.words.now c.args.self.now.n c.args.k c.args.line c.args.from c.next_named-i.result e.same)

pub returns-then-self-i : goal.returns-then-self-i
returns-then-self-i c = record { inside = omega arith; same = c.loop-i.invariant.2; here = λ h. c.loop-i.invariant.1 h; over = λ h. c.if-self-i.true }

pub loop-i-preserved : goal.loop-i-preserved
loop-i-preserved c =
    let e = c.next_named-i-in-loop-i.ensures in
    let xs = c.args.self.now.words.now in
    let n = c.args.self.now.n in
    let k = c.args.k in
    let l = c.args.line in
    let i = c.loop-i.i in
    (e.inside, e.here, c.loop-i.invariant.2 ∙ above-past xs n k l i c.loop-i-test.true (c.loop-i.invariant.1 c.loop-i-test.true) c.if-self-i.false ∙ above_same xs n k l (i + 1) c.next_named-i-in-loop-i.result e.same)

pub returns : goal.returns
returns c = record { inside = omega arith; same = c.loop-i.invariant.2; here = λ h. c.loop-i.invariant.1 h; over = λ h. absurd (omega arith) }
