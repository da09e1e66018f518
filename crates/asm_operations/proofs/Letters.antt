-- Three bytes of a line are letters, byte by byte.
-- Assumes nothing.
use Prim.Native.Nat.{ℕ, suc, ◌+◌, ◌<◌, ◌≤◌}
use native.Mathlib.Numerals.{add-one}
use native.Mathlib.Omega.{arith}
use mathlib.Core.Path.{◌≡◌, refl, ap, ◌∙◌}
use mathlib.Core.Bool.{Bool, true, false}
use mathlib.Core.List.{List, [], ◌∷◌}
use lib.ListN.{drop, length, take}
use lib.Seq.{drop-cons}
use Rattle.base.specs.Test.{◌and◌}
use Rattle.base.specs.Lists.{◌at◌}
use Rattle.language.specs.Text.{all, is_letter}

and-true : (b : Bool) → (b and true) ≡ b
unfolding ◌and◌
and-true true = refl
and-true false = refl

three : (s : List ℕ) (i : ℕ) → i + 3 ≤ length s → drop i s ≡ s at i ∷ s at (i + 1) ∷ s at (i + 2) ∷ drop (i + 3) s
three s i h =
    let d : drop i s ≡ s at i ∷ drop (suc i) s = drop-cons s i 0 (omega arith) in
    let e : drop (suc i) s ≡ s at suc i ∷ drop (suc (suc i)) s = drop-cons s (suc i) 0 (omega arith) in
    let f : drop (suc (suc i)) s ≡ s at suc (suc i) ∷ drop (suc (suc (suc i))) s = drop-cons s (suc (suc i)) 0 (omega arith) in
    let a : suc i ≡ i + 1 = omega arith in
    let b : suc (suc i) ≡ i + 2 = omega arith in
    let g : suc (suc (suc i)) ≡ i + 3 = omega arith in
    d ∙ rw (e, f, g, b, a)

pub letters-at : (s : List ℕ) (i : ℕ) → i + 3 ≤ length s
    → all is_letter (take 3 (drop i s)) ≡ (is_letter (s at i) and is_letter (s at (i + 1)) and is_letter (s at (i + 2)))
letters-at s i h = rw (three s i h, and-true)
