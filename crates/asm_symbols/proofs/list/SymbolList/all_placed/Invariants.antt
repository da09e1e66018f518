use Prim.Native.Nat.{◌<◌, ◌≤◌, ℕ}
use mathlib.Core.Path.{◌≡◌}
use mathlib.Core.Bool.{false}
use Rattle.asm_symbols.proofs.Places.{lacks_at}
use Rattle.asm_symbols.proofs.list.SymbolList.all_placed.Given as goal

abbrev pub invariant-loop-i : goal.invariant-loop-i
invariant-loop-i l = (l.i ≤ l.self.n) × ((j : ℕ) → j < l.i → lacks_at l.self.words.now l.self.n j ≡ false)
