-- `asm_symbols::list::SymbolList::own_meaning`: each return is the meaning of its sort.
use Prim.Native.Nat.{◌≤◌}
use mathlib.Core.Path.{refl, sym}
use Rattle.asm_symbols.proofs.Places.{others-placed, place-meaning}
use Rattle.asm_symbols.proofs.list.SymbolList.own_meaning.Goals as goal

pub returns-then-sort-eq-BARE : goal.returns-then-sort-eq-BARE
returns-then-sort-eq-BARE c = (rw c.if-sort-eq-BARE.true refl, tt)

pub returns-then-sort-eq-EXTERNAL : goal.returns-then-sort-eq-EXTERNAL
returns-then-sort-eq-EXTERNAL c = (rw c.if-sort-eq-EXTERNAL.true refl, c.args.self.now.symbolic.values c.args.i c.requires.0)

pub returns-then-sort-eq-EQUAL : goal.returns-then-sort-eq-EQUAL
returns-then-sort-eq-EQUAL c = (rw c.if-sort-eq-EQUAL.true refl, c.args.self.now.symbolic.values c.args.i c.requires.0)

pub returns-then-sort-eq-WORD : goal.returns-then-sort-eq-WORD
returns-then-sort-eq-WORD c = (rw c.if-sort-eq-WORD.true refl, c.args.self.now.symbolic.values c.args.i c.requires.0)

pub returns : goal.returns
returns c =
    let a = c.args.sort in
    let h : a ≤ 11 = rw c.requires.1 (c.args.self.now.symbolic.sorts c.args.i c.requires.0) in
    let g : 7 ≤ a = others-placed a c.if-sort-eq-BARE.false c.if-sort-eq-EXTERNAL.false c.if-sort-eq-EQUAL.false c.if-sort-eq-WORD.false c.requires.2 in
    (sym (place-meaning _ _ a h g), (h, c.args.self.now.symbolic.places c.args.i c.requires.0 (rw (← c.requires.1) g)))
