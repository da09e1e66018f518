use Prim.Native.Nat.{◌≤◌}
use mathlib.Core.Path.{◌≡◌}
use lib.ListN.{drop}
use Rattle.language.specs.Operand.{outcomes}
use Rattle.asm_types.specs.Views.{card_view, symbols_in}
use Rattle.asm_outcomes.specs.Tests.{all_by}
use Rattle.asm_outcomes.proofs.all_pass.Given as goal

abbrev pub invariant-loop-i : goal.invariant-loop-i
invariant-loop-i l = (all_by l.test (drop l.i (outcomes (symbols_in l.symbols.words.now l.symbols.n) (card_view l.c l.s))) ≡ all_by l.test (outcomes (symbols_in l.symbols.words.now l.symbols.n) (card_view l.c l.s))) × (l.i ≤ l.count)
