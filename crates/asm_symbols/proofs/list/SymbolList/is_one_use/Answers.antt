-- `asm_symbols::list::SymbolList::is_one_use`: the fields above the line are none, one, two or more.
use Prim.Native.Nat.{◌*◌, ◌+◌, ◌<◌}
use mathlib.Core.Path.{◌∙◌, ◌≡◌, refl, sym}
use mathlib.Core.List.{[]}
use native.Mathlib.Omega.{arith}
use lib.ListN.{get_or}
use Rattle.language.specs.Symbol.{above, fields_named}
use Rattle.asm_types.specs.Views.{symbols_in}
use Rattle.asm_symbols.proofs.Sorts.{pairs-by, third-is, third-not, two-by}
use Rattle.asm_symbols.proofs.Walks.{above-all, above-one, above-two, next_here, next-none}
use Rattle.asm_symbols.proofs.list.SymbolList.is_one_use.Goals as goal

pub returns-then-i-self : goal.returns-then-i-self
returns-then-i-self c =
    let xs = c.args.self.now.words.now in
    let n = c.args.self.now.n in
    let k = c.args.k in
    let l = c.args.line in
    let e : above l (fields_named k (symbols_in xs n)) ≡ [] = sym (above-all xs n k l) ∙ next-none xs n 0 k l c.next_above-i.result c.next_above-i.ensures (omega arith) in
    rw e refl

pub returns-then-j-self : goal.returns-then-j-self
returns-then-j-self c =
    let xs = c.args.self.now.words.now in
    let n = c.args.self.now.n in
    let k = c.args.k in
    let l = c.args.line in
    let i = c.next_above-i.result in
    let h : i < n = omega (arith, c.next_above-i.ensures.inside) in
    c.is_pair.ensures ∙ sym (rw (above-one xs n k l i c.next_above-j.result c.next_above-i.ensures c.next_above-j.ensures h (omega arith)) (pairs-by (get_or xs (5 * i + 2) 0) c.args.sort (c.args.self.now.symbolic.sorts i h) c.requires))

pub returns-then-h-self : goal.returns-then-h-self
returns-then-h-self c =
    let xs = c.args.self.now.words.now in
    let n = c.args.self.now.n in
    let k = c.args.k in
    let l = c.args.line in
    let i = c.next_above-i.result in
    let h : i < n = omega (arith, c.next_above-i.ensures.inside) in
    let j = c.next_above-j.result in
    let g : j < n = omega (arith, c.next_above-j.ensures.inside) in
    rw (above-two xs n k l i j c.next_above-i.ensures c.next_above-j.ensures h g, next_here xs n (j + 1) k l c.next_above-h.result c.next_above-h.ensures c.if-h-self.true) refl

pub returns-then-sort-ne-RETURNS : goal.returns-then-sort-ne-RETURNS
returns-then-sort-ne-RETURNS c =
    let xs = c.args.self.now.words.now in
    let n = c.args.self.now.n in
    let k = c.args.k in
    let l = c.args.line in
    let i = c.next_above-i.result in
    let h : i < n = omega (arith, c.next_above-i.ensures.inside) in
    let j = c.next_above-j.result in
    let g : j < n = omega (arith, c.next_above-j.ensures.inside) in
    rw (above-two xs n k l i j c.next_above-i.ensures c.next_above-j.ensures h g, next-none xs n (j + 1) k l c.next_above-h.result c.next_above-h.ensures c.if-h-self.false) (sym (third-not _ c.args.sort c.requires c.if-sort-ne-RETURNS.true))

pub returns : goal.returns
returns c =
    let xs = c.args.self.now.words.now in
    let n = c.args.self.now.n in
    let k = c.args.k in
    let l = c.args.line in
    let i = c.next_above-i.result in
    let h : i < n = omega (arith, c.next_above-i.ensures.inside) in
    let j = c.next_above-j.result in
    let g : j < n = omega (arith, c.next_above-j.ensures.inside) in
    c.is_routine_global.ensures ∙ sym (rw (above-two xs n k l i j c.next_above-i.ensures c.next_above-j.ensures h g, next-none xs n (j + 1) k l c.next_above-h.result c.next_above-h.ensures c.if-h-self.false) (third-is _ c.args.sort c.if-sort-ne-RETURNS.false ∙ two-by (get_or xs (5 * i + 2) 0) (get_or xs (5 * j + 2) 0) (c.args.self.now.symbolic.sorts i h) (c.args.self.now.symbolic.sorts j g)))
