use Prim.Native.Nat.{◌≤◌}
use mathlib.Core.Path.{◌≡◌}
use lib.ListN.{drop}
use Rattle.language.specs.Text.{number_of}
use Rattle.asm_types.specs.Views.{cut_parsed, most_word}
use Rattle.asm_names.proofs.Numbers.{more}
use Rattle.asm_names.proofs.number_of.Given as goal

abbrev pub invariant-loop-i : goal.invariant-loop-i
invariant-loop-i l = (l.n ≤ most_word) × (more l.n (drop l.i l.s) ≡ cut_parsed (number_of l.s))
