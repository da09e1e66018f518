-- `asm_symbols::list::SymbolList::all_placed`: no symbol before i has a name that lacks its place.
use mathlib.Core.Path.{◌∙◌, ◌≡◌, sym}
use mathlib.Core.Logic.{⊎_elim}
use native.Mathlib.Omega.{arith}
use Rattle.base.proofs.Bool.{and_r, test-true, true-ok}
use Rattle.rules.proofs.Facts.{lt-suc-cases}
use Rattle.asm_symbols.proofs.Places.{all_placed_lem, lacks-next, not-placed}
use Rattle.asm_symbols.proofs.list.SymbolList.all_placed.Goals as goal

pub loop-i-init : goal.loop-i-init
loop-i-init c = (omega arith, λ j h. absurd (omega arith))

pub returns-then-declares_lacking : goal.returns-then-declares_lacking
returns-then-declares_lacking c =
    let n = c.args.self.now.n in
    sym (not-placed c.args.self.now.words.now n n 0 c.loop-i.i (omega arith) (omega arith) (test-true _ (and_r _ _ (true-ok _ (sym c.declares_lacking.ensures ∙ c.if-declares_lacking.true)))))

pub loop-i-preserved : goal.loop-i-preserved
loop-i-preserved c =
    let xs = c.args.self.now.words.now in
    let i = c.loop-i.i in
    let v = c.loop-i.invariant.1 in
    (omega arith, λ j h. ⊎_elim (v j) (λ (q : j ≡ i). rw q (lacks-next xs c.args.self.now.n i c.loop-i-test.true (c.args.self.now.symbolic.sorts i c.loop-i-test.true) v (sym c.declares_lacking.ensures ∙ c.if-declares_lacking.false))) (lt-suc-cases j i (omega arith)))

pub returns : goal.returns
returns c =
    let n = c.args.self.now.n in
    let v = c.loop-i.invariant.1 in
    sym (all_placed_lem c.args.self.now.words.now n (λ j h. v j (omega arith)) n 0 (omega arith))
