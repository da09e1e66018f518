-- `asm_symbols::list::SymbolList::field_meaning`: each return is the meaning of its sort.
use Prim.Native.Nat.{◌*◌, ◌+◌}
use mathlib.Core.Path.{◌∙◌, ap, refl, sym}
use mathlib.Core.Bool.{Bool, false}
use native.Mathlib.Omega.{arith}
use lib.ListN.{get_or}
use Rattle.language.specs.Symbol.{global, has_sort, internal, routine}
use Rattle.asm_types.specs.Views.{symbol_at}
use Rattle.asm_symbols.specs.Walk.{from_sort, named_from, placed_first}
use Rattle.asm_symbols.proofs.Places.{not-declares, own-meaning, placed-sort}
use Rattle.asm_symbols.proofs.list.SymbolList.field_meaning.Goals as goal

pub returns-then-sort-eq-INTERNAL : goal.returns-then-sort-eq-INTERNAL
returns-then-sort-eq-INTERNAL c =
    let ys = named_from c.args.self.now.words.now c.args.self.now.n (c.args.i + 1) c.args.k in
    (c.place_from.ensures.0 ∙ sym (rw c.if-sort-eq-INTERNAL.true (placed-sort 8 (omega arith) internal false ys)), c.place_from.ensures.1)

pub returns-then-sort-eq-ROUTINE : goal.returns-then-sort-eq-ROUTINE
returns-then-sort-eq-ROUTINE c =
    let ys = named_from c.args.self.now.words.now c.args.self.now.n (c.args.i + 1) c.args.k in
    (c.place_from-then-sort-eq-ROUTINE.ensures.0 ∙ ap (λ (b : Bool). placed_first (from_sort 9 9 ys) routine b) c.has_sort_from-g.ensures ∙ sym (rw c.if-sort-eq-ROUTINE.true (placed-sort 9 (omega arith) routine (has_sort global ys) ys)), c.place_from-then-sort-eq-ROUTINE.ensures.1)

pub returns-then-sort-eq-GLOBAL : goal.returns-then-sort-eq-GLOBAL
returns-then-sort-eq-GLOBAL c = (c.global_meaning.ensures.0 ∙ sym (rw c.if-sort-eq-GLOBAL.true refl), c.global_meaning.ensures.1)

pub own_meaning-requires : goal.own_meaning-requires
own_meaning-requires c = (c.requires, refl, not-declares _ c.if-sort-eq-INTERNAL.false c.if-sort-eq-ROUTINE.false c.if-sort-eq-GLOBAL.false)

pub returns : goal.returns
returns c =
    let xs = c.args.self.now.words.now in
    let i = c.args.i in
    (c.own_meaning.ensures.0 ∙ sym (own-meaning (symbol_at xs i) (named_from xs c.args.self.now.n (i + 1) c.args.k) (get_or xs (5 * i + 2) 0) (c.args.self.now.symbolic.sorts i c.requires) (not-declares _ c.if-sort-eq-INTERNAL.false c.if-sort-eq-ROUTINE.false c.if-sort-eq-GLOBAL.false)), c.own_meaning.ensures.1)
