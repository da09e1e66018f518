-- The links of a state in the words that are lent and back.
-- Assumes nothing.
use Prim.Native.Nat.{ℕ, ◌+◌, ◌-◌, ◌<◌, ◌≤◌}
use mathlib.Core.Path.{◌≡◌, sym, ap, ◌∙◌}
use mathlib.Core.List.{List, [], ◌∷◌, ◌++◌}
use native.Mathlib.Omega.{arith}
use native.Mathlib.Numerals.{add-one}
use lib.ListN.{length, take, drop, set, replicate, length-append, length-drop, length-set}
use lib.Seq.{get_or-set_same, length-take-le, take_all, take_at, take-set-le, take-suc, take-suc-set}
use Rattle.base.specs.Lists.{◌at◌}
use Rattle.states.proofs.Coded.{drop-replicate}
use Rattle.states.proofs.Front.{links-front}
use Rattle.exec_core.specs.Seen.{open_links}
use Rattle.resuming.specs.Packing.{Linked}

-- k links of the array ls in the lent words
unpacked-to : (ls x z : List ℕ) (k : ℕ) → k ≤ 256 → length ls ≡ 256 → length z ≡ 257 → x ≡ take k ls
    → Linked k ls (set (x ++ drop k z) 256 k)
unpacked-to ls x z k few full room e =
    let n : length x ≡ k = ap length e ∙ length-take-le k ls (omega arith) in
    let w : length (x ++ drop k z) ≡ 257 = omega (arith, length-append x (drop k z), length-drop k z) in
    let c : set (x ++ drop k z) 256 k at 256 ≡ k = get_or-set_same (x ++ drop k z) 256 k 0 (omega arith) in
    record {
      room = length-set (x ++ drop k z) 256 k ∙ w;
      count = c;
      links =
          ap (λ (i : ℕ). take i (set (x ++ drop k z) 256 k)) c
          ∙ take-set-le k (x ++ drop k z) 256 k few ∙ take_at x (drop k z) k n ∙ e ∙ sym (links-front k ls few);
    }

pub unpacked : (ls x z : List ℕ) (i k : ℕ) → i ≡ k → k ≤ 256 → length ls ≡ 256 → length z ≡ 257 → x ≡ take i ls
    → Linked k ls (set (x ++ drop i z) 256 k)
unpacked ls x z i k d few full room e = rw d (unpacked-to ls x z k few full room (rw (← d) e))

module _ (l : List ℕ) (room : length l ≡ 257) (few : l at 256 ≤ 256) where
  -- how many links are open
  pub packed-count : length (open_links l) ≡ l at 256
  packed-count = length-take-le (l at 256) l (omega arith)

  -- the links in an array of 0s
  pub packed-links : (x z : List ℕ) (k : ℕ) → k ≡ l at 256 → x ≡ take k l → z ≡ replicate 256 0
      → x ++ drop k z ≡ open_links l ++ replicate (256 - l at 256) 0
  packed-links x z k e h f = rw (h, f, e, drop-replicate (l at 256) 256)
