-- Whether the words are a state.
-- Assumes nothing.
use Prim.Native.Nat.{ℕ, ◌<◌, ◌≤◌}
use mathlib.Core.Path.{◌≡◌, refl, sym, ◌∙◌}
use mathlib.Core.Bool.{Bool, false, not}
use mathlib.Core.List.{List}
use lib.Dec.{leb}
use lib.ListN.{length}
use borrow.Author.Tests.{le-leb, lt-leb, not-false}
use Rattle.base.specs.Test.{◌and◌, Ok}
use Rattle.base.proofs.Bool.{and_l, ok-le, true-ok}
use Rattle.base.specs.Lists.{◌at◌}
use Rattle.lent.specs.Lent.{lawful}

-- the words are too few, the flag is off, or the waiting word decides
pub few_words : (ws : List ℕ) → length ws < 270 → false ≡ lawful ws
unfolding lawful ◌and◌
few_words ws h = rw (lt-leb 270 (length ws) h) refl

pub flag_off : (ws : List ℕ) → 270 ≤ length ws → 1 < ws at 7 → false ≡ lawful ws
unfolding lawful ◌and◌
flag_off ws h k = rw (le-leb 270 (length ws) h, lt-leb (ws at 7) 1 k) refl

pub waiting-decides : (ws : List ℕ) → 270 ≤ length ws → ws at 7 ≤ 1 → leb (ws at 9) 1 ≡ lawful ws
unfolding lawful ◌and◌
waiting-decides ws h k = rw (le-leb 270 (length ws) h, le-leb (ws at 7) 1 k) refl

-- lawful words are enough
lawful-first : (ws : List ℕ) → Ok (lawful ws) → Ok (leb 270 (length ws))
unfolding lawful
lawful-first ws h = and_l _ _ h

pub lawful-enough : (ws : List ℕ) (b : Bool) → b ≡ lawful ws → not b ≡ false → 270 ≤ length ws
lawful-enough ws b e h = ok-le 270 (length ws) (lawful-first ws (true-ok _ (sym e ∙ not-false b h)))
