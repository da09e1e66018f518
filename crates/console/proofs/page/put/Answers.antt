-- `console::page::put` meets its contract: after i rounds the page holds the first i bytes of the text.
use Prim.Native.Nat.{ℕ, ◌+◌, ◌<◌, min}
use mathlib.Core.Path.{◌≡◌, refl, sym, ap, ◌∙◌}
use mathlib.Core.List.{List}
use native.Mathlib.Omega.{arith}
use lib.ListN.{get_or, length, length-set, set}
use lib.Seq.{paste, paste-zero, paste-suc}
use native.Mathlib.Numerals.{add-one}
use Rattle.console.specs.Page.{fitting}
use Rattle.console.proofs.page.put.Goals as goal

pub loop-i-init : goal.loop-i-init
loop-i-init c = (omega arith, refl, paste-zero c.args.page.now c.args.at c.args.text.now)

pub bounds-text-i : goal.bounds-text-i
bounds-text-i c = omega (arith, c.min-n.ensures)

pub overflow_add-page : goal.overflow_add-page
overflow_add-page c = omega (arith, c.min-n.ensures, c.saturating_sub.ensures)

pub bounds-page-at : goal.bounds-page-at
bounds-page-at c = omega (arith, c.min-n.ensures, c.saturating_sub.ensures, c.loop-i.invariant.1)

pub loop-i-preserved : goal.loop-i-preserved
loop-i-preserved c =
    let v = c.loop-i.invariant in
    let i = c.loop-i.i in
    let a = c.args in
    let inside : a.at + i < length a.page.now = omega (arith, c.min-n.ensures, c.saturating_sub.ensures) in
    let more : i < length a.text.now = omega (arith, c.min-n.ensures) in (
      omega arith,
      simp length-set v.1,
      ap (λ (l : List ℕ). set l (a.at + i) (get_or a.text.now i 0)) v.2
          ∙ paste-suc a.page.now a.at a.text.now i 0 inside more
          ∙ ap (paste a.page.now a.at a.text.now) (sym (add-one i)),
    )

pub shape_of-page : goal.shape_of-page
shape_of-page c = c.loop-i.invariant.1

pub returns : goal.returns
returns c =
    let a = c.args in
    let n : c.min-n.result ≡ fitting a.page.now a.at a.text.now =
    c.min-n.ensures ∙ ap (min (length a.text.now)) c.saturating_sub.ensures in
    let i : c.loop-i.i ≡ c.min-n.result = omega arith in
    record {
      behind = ap (λ (k : ℕ). a.at + k) n;
      holds = c.loop-i.invariant.2 ∙ ap (paste a.page.now a.at a.text.now) (i ∙ n);
    }
