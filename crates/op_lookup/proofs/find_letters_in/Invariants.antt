use Prim.Native.Nat.{ℕ, ◌≤◌, ◌<◌}
use mathlib.Core.List.{[]}
use lib.ListN.{length, get_or}
use Rattle.op_lookup.specs.Answers.{HasLetters}
use Rattle.op_lookup.proofs.find_letters_in.Given as goal

abbrev pub invariant-loop-i : goal.invariant-loop-i
invariant-loop-i l = (l.i ≤ length l.rows) × ((j : ℕ) → j < l.i → HasLetters (get_or l.rows j []) l.a l.b l.c → ⊥)
