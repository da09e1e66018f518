-- No row before row i has the letters.
use native.Mathlib.Omega.{arith}
use mathlib.Core.Path.{sym, ◌∙◌}
use Rattle.op_lookup.proofs.Letters.{has-letters, other-letters, first-at, first-nowhere, none_more}
use Rattle.op_lookup.proofs.find_letters_in.Goals as goal

pub loop-i-init : goal.loop-i-init
loop-i-init c = (omega arith, λ j h e. omega arith)

pub returns-then-has_letters : goal.returns-then-has_letters
returns-then-has_letters c =
    let l = c in
    let a = l.args in
    first-at a.rows.now a.a a.b a.c l.loop-i.i (omega arith)
    (has-letters _ _ _ _ (sym c.has_letters.ensures ∙ c.if-has_letters.true)) l.loop-i.invariant.1

pub loop-i-preserved : goal.loop-i-preserved
loop-i-preserved c =
    let l = c in
    let a = l.args in (
      omega arith,
      none_more a.rows.now a.a a.b a.c l.loop-i.i
          (other-letters _ _ _ _ (sym c.has_letters.ensures ∙ c.if-has_letters.false)) l.loop-i.invariant.1,
    )

pub returns : goal.returns
returns c =
    let a = c.args in
    first-nowhere a.rows.now a.a a.b a.c (λ i h. c.loop-i.invariant.1 i (omega arith))
