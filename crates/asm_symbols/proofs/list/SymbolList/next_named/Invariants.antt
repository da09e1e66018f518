use Prim.Native.Nat.{◌-◌, ◌≤◌}
use mathlib.Core.Path.{◌≡◌}
use Rattle.asm_symbols.specs.Walk.{named_from}
use Rattle.asm_symbols.proofs.list.SymbolList.next_named.Given as goal

abbrev pub invariant-loop-i : goal.invariant-loop-i
invariant-loop-i l = (l.i ≤ l.self.n) × (l.from ≤ l.i) × (named_from l.self.words.now l.self.n l.from l.k ≡ named_from l.self.words.now l.self.n l.i l.k)

abbrev pub decreases-loop-i : goal.decreases-loop-i
decreases-loop-i l = l.self.n - l.i
