-- `asm_symbols::list::SymbolList::meaning`: the meaning of the first field of the name.
use Prim.Native.Nat.{◌<◌}
use mathlib.Core.Path.{◌∙◌, refl, sym}
use native.Mathlib.Omega.{arith}
use Rattle.language.specs.Symbol.{meaning}
use Rattle.asm_symbols.proofs.Walks.{first-here, first-none}
use Rattle.asm_symbols.proofs.list.SymbolList.meaning.Goals as goal

pub returns-then-i-self : goal.returns-then-i-self
unfolding meaning
returns-then-i-self c = (rw (first-none c.args.self.now.words.now c.args.self.now.n c.args.k c.next_named-i.result c.next_named-i.ensures c.if-i-self.true) refl, tt)

pub field_meaning-requires : goal.field_meaning-requires
field_meaning-requires c = omega (arith, c.next_named-i.ensures.inside)

pub returns : goal.returns
unfolding meaning
returns c =
    let h : c.next_named-i.result < c.args.self.now.n = omega (arith, c.next_named-i.ensures.inside) in
    (c.field_meaning.ensures.0 ∙ sym (rw (first-here c.args.self.now.words.now c.args.self.now.n c.args.k c.next_named-i.result c.next_named-i.ensures h) refl), c.field_meaning.ensures.1)
