-- `asm_symbols::list::SymbolList::place_from`: the symbol that is found is the first of its range, or there is none.
use Prim.Native.Nat.{◌<◌}
use mathlib.Core.Path.{refl}
use native.Mathlib.Omega.{arith}
use Rattle.asm_symbols.proofs.Walks.{named_end, named_here}
use Rattle.asm_symbols.proofs.list.SymbolList.place_from.Goals as goal

pub returns-then-i-self : goal.returns-then-i-self
returns-then-i-self c = (rw (c.next_of-i.ensures.same, named_end c.args.self.now.words.now c.args.self.now.n c.args.k c.next_of-i.result (omega arith)) refl, c.requires.2)

pub returns : goal.returns
returns c =
    let xs = c.args.self.now.words.now in
    let i = c.next_of-i.result in
    let e = c.next_of-i.ensures in
    let h : i < c.args.self.now.n = omega (arith, e.inside) in
    (rw (e.same, named_here xs c.args.self.now.n c.args.k i h (e.here h)) refl, (c.args.self.now.symbolic.sorts i h, c.args.self.now.symbolic.places i h (omega (arith, e.least h, c.requires.1))))
