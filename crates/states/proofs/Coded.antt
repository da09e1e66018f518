-- A state of the rules in code and back: the fresh state, and a state whose words are laid out as the machine's own.
-- Assumes nothing.
use Prim.Native.Nat.{ℕ, zero, suc, ◌+◌, ◌-◌, ◌≤◌}
use mathlib.Core.Path.{◌≡◌, refl, ◌∙◌}
use mathlib.Core.List.{List, ◌++◌}
use native.Mathlib.Omega.{arith}
use lib.Dec.{eqb}
use lib.ListN.{length, drop, replicate}
use lib.Seq.{take-append_seam}
use Rattle.base.specs.Test.{Ok}
use Rattle.base.specs.Lists.{◌at◌}
use Rattle.base.proofs.Bool.{and_l, and_r, ok-le}
use Rattle.ops.specs.Machine.{XL, XR, XS, WA, WB, WC, IA, FLAG, RA, RAHIGH, RFLAG}
use Rattle.rules.specs.Check.{table_ok}
use Rattle.rules.specs.Control.{state_at}
use Rattle.rules.specs.Snapshot.{bit}
use Rattle.rules.specs.Start.{machine_words, started}
use Rattle.rules.specs.State as Rules
use Rattle.rules.specs.State.{memory_fits}
use Rattle.rules.specs.Table.{constants, workings}
use Rattle.states.specs.Memory.{Memory}
use Rattle.states.specs.Views.{code_of, fresh_of, links_of, state_of}
use Rattle.states.proofs.Front.{links-front}
use Rattle.bodies.proofs.Places.{entries-of}

-- memory that fits keeps its limits
pub memory-of : (t : List ℕ) (m : ℕ) → Ok (memory_fits t m) → Memory t m
unfolding memory_fits constants workings
memory-of t m h = record {
  least = ok-le _ _ (and_l _ _ h);
  most = ok-le _ _ (and_l _ _ (and_r _ _ h));
  rest = ok-le _ _
      (and_r _ _ (and_r _ _ h));
}

-- the words that the fresh state is made of: the table's header is there, and memory has its limits
pub record Lent (t : List ℕ) (m : ℕ) : Type 0 where
  pub header : 8 ≤ length t
  pub memory : Memory t m

pub lent : (t : List ℕ) (m : ℕ) → Ok (table_ok t) × Ok (memory_fits t m) → Lent t m
lent t m h =
    let e = entries-of t _ h.0 refl in
    record { header = omega arith; memory = memory-of t m h.1 }

-- the code's state of a started machine is the fresh one
pub fresh-view : (t m fs : List ℕ) (x : ℕ) → code_of (started t m fs x) ≡ fresh_of t (length m) x
unfolding started fresh_of
fresh-view t m fs x = refl

-- an array of 0s from k on
pub drop-replicate : (k n : ℕ) → drop {A = ℕ} k (replicate n 0) ≡ replicate (n - k) 0
drop-replicate zero n =
    let e : n - 0 ≡ n = omega arith in
    rw e
drop-replicate (suc k) zero =
    let e : 0 - suc k ≡ 0 = omega arith in
    rw e
drop-replicate (suc k) (suc n) =
    let e : suc n - suc k ≡ n - k = omega arith in
    rw e (drop-replicate k n)

-- a number that is 0 or 1, as a test and back
bit_test : (n : ℕ) → n ≤ 1 → bit (eqb n 1) ≡ n
bit_test zero h = refl
bit_test (suc zero) h = refl
bit_test (suc (suc n)) h = absurd (omega arith)

-- the code's state of a machine is seen as that machine, whatever memory stands beside it
pub code_view : (s : Rules.State) (mem : List ℕ)
    → s.core.words
    ≡ machine_words (s.core.words at XL) (s.core.words at XR) (s.core.words at XS) (s.core.words at WA) (s.core.words at WB)
    (s.core.words at WC) (s.core.words at IA) (s.core.words at FLAG) (s.core.words at RA) (s.core.words at RAHIGH)
    (s.core.words at RFLAG) → s.core.words at FLAG ≤ 1 → length s.links ≤ 256
    → state_of (code_of s) mem ≡ state_at (record { words = s.core.words; mem = mem }) s.pc s.waiting s.links
code_view s mem layout flag few =
    let l : links_of (length s.links) (s.links ++ replicate (256 - length s.links) 0) ≡ s.links =
    links-front _ _ few ∙ take-append_seam s.links (replicate (256 - length s.links) 0) in
    let f : bit (eqb (s.core.words at FLAG) 1) ≡ s.core.words at FLAG = bit_test _ flag in
    rw (l, f, ← layout)
