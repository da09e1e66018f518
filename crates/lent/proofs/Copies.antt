-- A state's words put in front of lent words.
-- Assumes nothing.
use Prim.Native.Nat.{ℕ, ◌+◌}
use mathlib.Core.Path.{◌≡◌, ap, ◌∙◌}
use mathlib.Core.List.{List, ◌++◌}
use native.Mathlib.Omega.{arith}
use lib.ListN.{length, drop, length-append}
use Rattle.states.specs.declared.State.{State}
use Rattle.snap_core.specs.Buffers.{put}
use Rattle.snap_core.proofs.Puts.{put-put}
use Rattle.snap_core.proofs.Freshening.{put_front}
use Rattle.lent.specs.Lent.{head_of, tail_of, words_from}

-- the words before the links, the links, then the words behind them
pub state-put : (ws : List ℕ) (s : State) (head tail one two three : List ℕ) → length s.links ≡ 256 → head ≡ head_of s → tail ≡ tail_of s
    → one ≡ put ws 0 head → two ≡ put one 11 s.links → three ≡ put two 267 tail → three ≡ words_from s ++ drop 270 ws
state-put ws s head tail one two three n h d e f g =
    let front : length (head_of s ++ s.links) ≡ 267 = length-append (head_of s) s.links ∙ ap (λ (k : ℕ). 11 + k) n in
    let size : length (head_of s ++ s.links ++ tail_of s) ≡ 270 =
    length-append (head_of s ++ s.links) (tail_of s) ∙ ap (λ (k : ℕ). k + 3) front in
    let two' : two ≡ put ws 0 (head_of s ++ s.links) = f ∙ rw (e, h) (put-put ws 0 (head_of s) s.links (omega arith)) in
    let seam : 267 ≡ 0 + length (head_of s ++ s.links) = omega (arith, front) in
    g ∙ rw (two', d, seam) (put-put ws 0 (head_of s ++ s.links) (tail_of s) (omega arith)) ∙ put_front ws (head_of s ++ s.links ++ tail_of s)
    ∙ ap (λ (k : ℕ). words_from s ++ drop k ws) size
