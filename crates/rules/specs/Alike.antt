-- Machines of words, machines that are the same but for their fresh words, and the two starts of a program: what the theorems about snapshots
-- and starts are said with.
-- Assumes nothing.
use Rattle.std.specs.Prelude.{ℕ, ◌+◌, ◌^◌, ◌<◌, ◌≤◌, ◌≡◌, List, ◌≢◌, length}
use Rattle.base.specs.Lists.{◌at◌}
use Rattle.ops.specs.Machine.{FLAG, IA, RA, RAHIGH, RFLAG, WA, WB, WC, XL, XR, XS}
use Rattle.rules.specs.Table.{constants, fresh_count, fresh_index, workings}
use Rattle.rules.specs.State.{State}
use Rattle.rules.specs.Start.{Started, begun, machine_words, unbegun}

-- every element is a word of 32 bits; every element is a byte
pub record AreWords (ws : List ℕ) : Type 0 where
  pub below : (i : ℕ) → ws at i < 2 ^ 32

pub record AreBytes (bs : List ℕ) : Type 0 where
  pub below : (i : ℕ) → bs at i < 256

-- what the code's types and layout give of a machine that its check does not look at, and of the build number
pub record Plain (s : State) (build : ℕ) : Type 0 where
  pub build_word : build < 2 ^ 32
  pub memory_words : AreWords s.core.mem
  pub own_are_words : AreWords s.core.words
  pub own-layout :
      s.core.words
      ≡ machine_words (s.core.words at XL) (s.core.words at XR) (s.core.words at XS) (s.core.words at WA) (s.core.words at WB)
      (s.core.words at WC) (s.core.words at IA) (s.core.words at FLAG) (s.core.words at RA) (s.core.words at RAHIGH)
      (s.core.words at RFLAG)
  pub flag_bit : s.core.words at FLAG ≤ 1

-- none of the first k fresh words has the index p
abbrev pub NotFresh : List ℕ → ℕ → ℕ → Type 0
NotFresh t k p = (i : ℕ) → i < k → p ≢ fresh_index t i

-- two machines that differ at most in the contents of their fresh words
pub record SameButFresh (t : List ℕ) (s s' : State) : Type 0 where
  pub pc : s.pc ≡ s'.pc
  pub waiting : s.waiting ≡ s'.waiting
  pub links : s.links ≡ s'.links
  pub words : s.core.words ≡ s'.core.words
  pub memory_length : length s.core.mem ≡ length s'.core.mem
  pub memory : (p : ℕ) → NotFresh t (fresh_count t) p → s.core.mem at p ≡ s'.core.mem at p

-- the machines p and w that the plain and the warm start of a program make of one lent memory [02 Wish 6]: the same state and the same words below
-- c + w; all others are 0 in p, and as lent in w
pub record SameStart (t lent : List ℕ) (p w : State) : Type 0 where
  pub pc : p.pc ≡ w.pc
  pub waiting : p.waiting ≡ w.waiting
  pub links : p.links ≡ w.links
  pub words : p.core.words ≡ w.core.words
  pub plain_length : length p.core.mem ≡ length lent
  pub warm_length : length w.core.mem ≡ length lent
  pub program : (i : ℕ) → i < constants t + workings t → p.core.mem at i ≡ w.core.mem at i
  pub cleared : (i : ℕ) → constants t + workings t ≤ i → p.core.mem at i ≡ 0
  pub kept : (i : ℕ) → constants t + workings t ≤ i → w.core.mem at i ≡ lent at i

-- both starts refuse, by one number, or both begin
abbrev pub StartsAgree : List ℕ → List ℕ → Started → Started → Type 0
StartsAgree t lent (begun p) (begun w) = SameStart t lent p w
StartsAgree t lent (unbegun e) (unbegun e') = e ≡ e'
StartsAgree t lent (begun p) (unbegun e) = ⊥
StartsAgree t lent (unbegun e) (begun w) = ⊥
