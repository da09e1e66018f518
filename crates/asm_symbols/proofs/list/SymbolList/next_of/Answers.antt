-- `asm_symbols::list::SymbolList::next_of`: i is a symbol of the name, or n, and none before it has a sort of the range.
use Prim.Native.Nat.{◌*◌, ◌+◌}
use mathlib.Core.Path.{◌∙◌, ◌≡◌, ap, sym}
use mathlib.Core.Bool.{false, true}
use native.Mathlib.Omega.{arith}
use lib.ListN.{get_or}
use Rattle.asm_symbols.specs.Walk.{among, from_sort}
use Rattle.asm_symbols.proofs.Places.{among-le, of_end, of-here, of-past}
use Rattle.asm_symbols.proofs.list.SymbolList.next_of.Goals as goal

pub loop-i-init : goal.loop-i-init
loop-i-init c =
    let e = c.next_named-i.ensures in
    (e.inside, e.here, ap (from_sort c.args.lo c.args.hi) e.same)

pub returns-then-is_among : goal.returns-then-is_among
returns-then-is_among c =
    let xs = c.args.self.now.words.now in
    let i = c.loop-i.i in
    let t : among c.args.lo c.args.hi (get_or xs (5 * i + 2) 0) ≡ true = sym c.is_among.ensures ∙ c.if-is_among.true in
    record { inside = omega arith; same = c.loop-i.invariant.2 ∙ of-here xs c.args.self.now.n c.args.k c.args.lo c.args.hi i c.loop-i-test.true (c.loop-i.invariant.1 c.loop-i-test.true) (c.args.self.now.symbolic.sorts i c.loop-i-test.true) t; here = λ h. c.loop-i.invariant.1 h; least = λ h. (among-le c.args.lo c.args.hi (get_or xs (5 * i + 2) 0) t).0 }

pub loop-i-preserved : goal.loop-i-preserved
loop-i-preserved c =
    let e = c.next_named-i-in-loop-i.ensures in
    let xs = c.args.self.now.words.now in
    let i = c.loop-i.i in
    let t : among c.args.lo c.args.hi (get_or xs (5 * i + 2) 0) ≡ false = sym c.is_among.ensures ∙ c.if-is_among.false in
    (e.inside, e.here, c.loop-i.invariant.2 ∙ of-past xs c.args.self.now.n c.args.k c.args.lo c.args.hi i c.loop-i-test.true (c.loop-i.invariant.1 c.loop-i-test.true) (c.args.self.now.symbolic.sorts i c.loop-i-test.true) t ∙ ap (from_sort c.args.lo c.args.hi) e.same)

pub returns : goal.returns
returns c = record { inside = omega arith; same = c.loop-i.invariant.2 ∙ of_end c.args.self.now.words.now c.args.self.now.n c.args.k c.args.lo c.args.hi c.loop-i.i (omega arith); here = λ h. c.loop-i.invariant.1 h; least = λ h. absurd (omega arith) }
