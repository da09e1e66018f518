use Prim.Native.Nat.{◌*◌, ◌-◌, ◌<◌, ◌≤◌}
use mathlib.Core.Path.{◌≡◌}
use lib.ListN.{get_or}
use Rattle.asm_symbols.specs.Walk.{above_from}
use Rattle.asm_symbols.proofs.list.SymbolList.next_above.Given as goal

abbrev pub invariant-loop-i : goal.invariant-loop-i
invariant-loop-i l = (l.i ≤ l.self.n) × (l.i < l.self.n → get_or l.self.words.now (5 * l.i) 0 ≡ l.k) × (above_from l.self.words.now l.self.n l.from l.k l.line ≡ above_from l.self.words.now l.self.n l.i l.k l.line)

abbrev pub decreases-loop-i : goal.decreases-loop-i
decreases-loop-i l = l.self.n - l.i
