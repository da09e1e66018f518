-- The links of the code's state: the front of its array.
-- Assumes nothing.
use Prim.Native.Nat.{ℕ, ◌-◌, ◌≤◌}
use mathlib.Core.Path.{◌≡◌, refl}
use mathlib.Core.List.{List, append-nil}
use native.Mathlib.Omega.{arith}
use lib.ListN.{length, length-append, length-replicate, length-take, take}
use Rattle.states.specs.Views.{links_of}

-- k links, at most as many as there may be, are the first k of the array
pub links-front : (k : ℕ) (l : List ℕ) → k ≤ 256 → links_of k l ≡ take k l
unfolding links_of
links-front k l h = let z : k - 256 ≡ 0 = omega arith in rw (z, append-nil (take k l)) refl

-- k links are k, also where k is over the limit
pub links-length : (k : ℕ) (l : List ℕ) → length l ≡ 256 → length (links_of k l) ≡ k
unfolding links_of
links-length k l h = simp (length-append, length-take, length-replicate) (omega arith)
