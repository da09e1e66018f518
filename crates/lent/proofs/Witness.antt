-- Words that are a state, and words that are not: one too few, a flag of 2, a waiting word of 2. Computed.
-- Assumes nothing.
use Prim.Native.Nat.{ℕ}
use mathlib.Core.Path.{◌≡◌, refl}
use mathlib.Core.Bool.{true, false}
use mathlib.Core.List.{List}
use lib.ListN.{replicate, set}
use Rattle.base.specs.Test.{◌and◌, ◌or◌}
use Rattle.lent.specs.Lent.{lawful}

abbrev blank : List ℕ
blank = replicate 270 0

pub words-pass : lawful blank and lawful (set (set blank 7 1) 9 1) and lawful (replicate 300 0) ≡ true
unfolding lawful ◌and◌
words-pass = refl

pub words-fail : lawful (replicate 269 0) or lawful (set blank 7 2) or lawful (set blank 9 2) ≡ false
unfolding lawful ◌and◌ ◌or◌
words-fail = refl
