-- The machine that a file holds: its links in an array, its state in code and back, and the tests of what it holds.
-- Assumes nothing.
use Prim.Native.Nat.{ℕ, ◌-◌, ◌<◌, ◌≤◌}
use mathlib.Core.Path.{◌≡◌, refl, sym, ap, ◌∙◌}
use mathlib.Core.Bool.{Bool, false}
use mathlib.Core.List.{List, ◌++◌}
use native.Mathlib.Omega.{arith}
use lib.ListN.{length, take, drop, replicate, length-replicate}
use lib.Seq.{length-take-le}
use Rattle.base.specs.Test.{Ok}
use Rattle.base.proofs.Bool.{and_l}
use Rattle.rules.specs.State.{state_ok}
use Rattle.rules.specs.Control.{state_at}
use Rattle.rules.specs.Snapshot.{frozen_in, frozen_ok, links_from, links_in, memory_from, memory_in, trailer_ok, words_in}
use Rattle.rules.proofs.Bytes.{length-words_in}
use Rattle.rules.proofs.Files.{state-limits}
use Rattle.states.specs.declared.State.{State}
use Rattle.states.specs.Views.{code_of, state_of}
use Rattle.states.proofs.Coded.{code_view, drop-replicate}
use Rattle.snap_core.proofs.Trailers.{not-ok, trailed}

-- the array is full
pub full-array : (z : List ℕ) → z ≡ replicate 256 0 → length z ≡ 256
full-array z e = rw e (length-replicate {A = ℕ} 256 0)

-- k words of the file in the array z, and the array's 0s behind them
pub links-array : (file x z : List ℕ) (k a : ℕ) → k ≤ 256 → z ≡ replicate 256 0 → x ≡ words_in file a (length (take k z))
    → x ++ drop k z ≡ words_in file a k ++ replicate (256 - k) 0
links-array file x z k a b e h =
    let n : length (take k z) ≡ k = length-take-le k z (omega (arith, full-array z e)) in
    rw (h, n, e, drop-replicate k 256)

-- the code's state of the machine that a file holds is seen as that machine, whatever memory stands beside it
pub frozen-view : (file mem : List ℕ) → Ok (trailer_ok file) → links_in file ≤ 256
    → state_of (code_of (frozen_in file)) mem
    ≡ state_at (record { words = (frozen_in file).core.words; mem = mem }) (frozen_in file).pc (frozen_in file).waiting (frozen_in file).links
unfolding frozen_in
frozen-view file mem ok few = code_view (frozen_in file) mem refl (trailed file ok).flag (rw length-words_in few)

-- the state check of a file's state
pub frozen-checked : (t file : List ℕ) (s : State) (r : Bool) (m : ℕ) → Ok (trailer_ok file) → links_in file ≤ 256 → s ≡ code_of (frozen_in file)
    → m ≡ memory_in file → ((mem : List ℕ) → length mem ≡ m → r ≡ state_ok t (state_of s mem)) → r ≡ state_ok t (frozen_in file)
unfolding frozen_in
frozen-checked t file s r m ok few e n h =
    let mem : List ℕ = words_in file (memory_from file) (memory_in file) in
    h mem (length-words_in file (memory_from file) (memory_in file) ∙ sym n)
    ∙ ap (λ (x : State). state_ok t (state_of x mem)) e
    ∙ ap (state_ok t) (frozen-view file mem ok few)

-- too many links are unfit
pub frozen-many : (t file : List ℕ) → 256 < links_in file → frozen_ok t (frozen_in file) ≡ false
unfolding frozen_ok frozen_in
frozen-many t file many =
    not-ok _
    (λ h. omega
    (arith, (state-limits t (frozen_in file) (and_l _ _ h)).few, length-words_in file (links_from file) (links_in file)))
