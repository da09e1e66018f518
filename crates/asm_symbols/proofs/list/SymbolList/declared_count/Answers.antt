-- `asm_symbols::list::SymbolList::declared_count`: the first field of the name, if it is an INP's.
use Prim.Native.Nat.{◌*◌, ◌+◌, ◌<◌}
use mathlib.Core.Path.{refl, sym}
use native.Mathlib.Omega.{arith}
use borrow.Author.Tests.{ne_eqb}
use lib.ListN.{get_or}
use Rattle.base.specs.Test.{if}
use Rattle.asm_symbols.proofs.Sorts.{is-sort}
use Rattle.asm_symbols.proofs.Walks.{first-here, first-none}
use Rattle.asm_symbols.proofs.list.SymbolList.declared_count.Goals as goal

pub returns-then-i-self : goal.returns-then-i-self
returns-then-i-self c = (rw (first-none c.args.self.now.words.now c.args.self.now.n c.args.k c.next_named-i.result c.next_named-i.ensures c.if-i-self.true) refl, tt)

pub returns-then-self-b-ne-INTERNAL : goal.returns-then-self-b-ne-INTERNAL
unfolding if
returns-then-self-b-ne-INTERNAL c =
    let xs = c.args.self.now.words.now in
    let i = c.next_named-i.result in
    let h : i < c.args.self.now.n = omega (arith, c.next_named-i.ensures.inside) in
    (rw (first-here xs c.args.self.now.n c.args.k i c.next_named-i.ensures h, is-sort 2 (get_or xs (5 * i + 2) 0) (omega arith) (c.args.self.now.symbolic.sorts i h), ne_eqb 2 (get_or xs (5 * i + 2) 0) (λ e. c.if-self-b-ne-INTERNAL.true (sym e))) refl, tt)

pub returns : goal.returns
unfolding if
returns c =
    let xs = c.args.self.now.words.now in
    let i = c.next_named-i.result in
    let h : i < c.args.self.now.n = omega (arith, c.next_named-i.ensures.inside) in
    (rw (first-here xs c.args.self.now.n c.args.k i c.next_named-i.ensures h, c.if-self-b-ne-INTERNAL.false) refl, c.args.self.now.symbolic.values i h)
