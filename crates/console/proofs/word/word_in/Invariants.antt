use Prim.Native.Nat.{◌≤◌}
use mathlib.Core.Path.{◌≡◌}
use lib.ListN.{drop}
use Rattle.asm_types.specs.Views.{most_word}
use Rattle.console.specs.Word.{word_of}
use Rattle.console.proofs.Words.{more}
use Rattle.console.proofs.word.word_in.Given as goal

abbrev pub invariant-loop-b : goal.invariant-loop-b
invariant-loop-b l = (l.n ≤ most_word) × (more l.n (drop l.b-index l.text) ≡ word_of l.text)
