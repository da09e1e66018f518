use Prim.Native.Nat.{◌-◌, ◌≤◌}
use mathlib.Core.Path.{◌≡◌}
use lib.ListN.{length, drop}
use Rattle.language.specs.Text.{lines}
use Rattle.console.specs.Line.{line_at, line_of}
use Rattle.console.proofs.lines.line_from.Given as goal

abbrev pub invariant-loop-i : goal.invariant-loop-i
invariant-loop-i l = (l._i ≤ l.k) × (l.at ≤ length l.text) × (line_at (lines (drop l.at l.text)) (l.k - l._i) ≡ line_of l.text l.k)
