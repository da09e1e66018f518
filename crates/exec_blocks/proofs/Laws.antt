-- What the tests of ranges say.
-- Assumes nothing.
use Prim.Native.Nat.{ℕ}
use mathlib.Core.Path.{◌≡◌}
use mathlib.Core.Bool.{true}
use mathlib.Core.List.{List}
use Rattle.base.specs.Test.{Ok, ◌and◌}
use Rattle.base.proofs.Bool.{and_l, and_r, ok-le, true-ok}
use Rattle.rules.specs.Exec.{chars_fit}
use Rattle.block_chars.specs.Chars.{Within}
use Rattle.exec_blocks.specs.Blocks.{words_fit}

-- ranges that the tests find to fit
pub fit-within : (m : List ℕ) (a n : ℕ) → Ok (chars_fit m a n) → Within m a n
unfolding chars_fit
fit-within m a n h = ok-le _ _ h

pub both-within : (m : List ℕ) (a n e k : ℕ) → (chars_fit m a n and chars_fit m e k) ≡ true → Within m a n × Within m e k
both-within m a n e k q = let h = true-ok _ q in (fit-within m a n (and_l _ _ h), fit-within m e k (and_r _ _ h))

pub words-within : (m : List ℕ) (a e n : ℕ) → words_fit m a e n ≡ true → Within m a n × Within m e n
unfolding words_fit
words-within m a e n q =
    let h = and_r _ _ (and_r _ _ (true-ok _ q)) in
    (fit-within m a n (and_l _ _ h), fit-within m e n (and_r _ _ h))
