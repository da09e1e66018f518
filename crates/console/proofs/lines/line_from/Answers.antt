-- `console::lines::line_from` meets its contract. Invariant: line k - i of those from place at on is line k of the text.
use Prim.Native.Nat.{suc, ◌+◌, ◌-◌}
use mathlib.Core.Path.{◌≡◌, ap, sym, ◌∙◌}
use native.Mathlib.Omega.{arith}
use lib.ListN.{drop}
use Rattle.language.specs.Text.{lines}
use Rattle.console.specs.Line.{line_at}
use Rattle.console.proofs.Numbered.{behind-le, line-next}
use Rattle.console.proofs.lines.line_from.Goals as goal

pub loop-i-init : goal.loop-i-init
loop-i-init c =
    let a = c.args in
    let e : a.k - 0 ≡ a.k = omega arith in
    (omega arith, omega arith, ap (line_at (lines a.text.now)) e)

pub loop-i-preserved : goal.loop-i-preserved
loop-i-preserved c =
    let a = c.args in
    let l = c.loop-i in
    let b = c.line_behind-at.ensures in
    let e : a.k - l._i ≡ suc (a.k - (l._i + 1)) = omega arith in (
      omega arith,
      omega (arith, b, behind-le a.text.now l.at l.invariant.1),
      rw b (sym (line-next a.text.now l.at (a.k - l._i) (a.k - (l._i + 1)) e) ∙ l.invariant.2),
    )

pub returns : goal.returns
returns c =
    let a = c.args in
    let l = c.loop-i in
    let z : 0 ≡ a.k - l._i = omega arith in
    (l.invariant.1, ap (line_at (lines (drop l.at a.text.now))) z ∙ l.invariant.2)
