-- What the definitions of the real operations say, for the proofs of code.
-- Assumes nothing.
use Prim.Native.Nat.{ℕ, ◌+◌, ◌<◌, ◌≤◌}
use mathlib.Core.Path.{◌≡◌, refl, sym, ap, subst, ◌∙◌}
use mathlib.Core.Bool.{Bool, false}
use mathlib.Core.List.{List}
use mathlib.Core.Logic.{◌⊎◌, inl, inr}
use lib.Dec.{T, eqb}
use lib.Ieee.{Float}
use lib.ListN.{length, set}
use borrow.Author.Tests.{lt-ltb, le-ltb, ne_eqb}
use Rattle.base.specs.Test.{Ok, if, ◌or◌}
use Rattle.base.specs.Lists.{◌at◌}
use Rattle.base.proofs.Bool.{or_cases, ok-eq}
use Rattle.ops.specs.Machine.{cfp_b, IA}
use Rattle.rules.specs.Number.{bad_address, constant_write, trap_number}
use Rattle.rules.specs.Effect.{shown}
use Rattle.rules.specs.Exec.{fork}
use Rattle.rules.specs.Operand.{Operand, address, spot_of, word_at}
use Rattle.std.specs.Prelude.{Option, Some, None}
use Rattle.exec_core.specs.Entry.{Sound, held_here, steady}
use Rattle.exec_core.specs.Views.{cell_of, way_of, answered, operand_at, effect_at, does, branches, onward}
use Rattle.real_rules.specs.Real.{Real, tests, real_of, both, proper, Whole, within, beyond, ra_of, whole_of, settled}
use Rattle.rules.specs.Pair.{words, missing, pair_of, loads_real, stores_pair, rti_of}
use Rattle.real_rules.proofs.Laws.{proper-both}
use Rattle.reals.specs.declared.Arithmetic.{Arithmetic}
use Rattle.reals.specs.declared.Arithmetic.TheVariants.{Sum, Difference, Product, Quotient}
use Rattle.reals.specs.declared.Comparison.{Comparison}
use Rattle.reals.specs.declared.Comparison.TheVariants.{Equal, NotLess, Greater, NotGreater, Less, NotEqual}
use Rattle.reals.specs.Views.{on_values, with_zero}
use Rattle.exec_reals.specs.Views.{pair_view, computing, comparing}

-- a real operand stands in memory
held_at : (k j : ℕ) → held_here j ≡ false → k ≡ j → held_here k ≡ false
held_at k j h e = ap held_here e ∙ h

held_by_lem : (k : ℕ) → Ok (steady k) → held_here k ≡ false
unfolding steady held_here if
held_by_lem k h = go (or_cases _ _ h)
  where
    more : Ok (eqb k 9) ⊎ Ok (eqb k 12) → held_here k ≡ false
    more (inl e) = held_at k 9 refl (ok-eq k 9 e)
    more (inr e) = held_at k 12 refl (ok-eq k 12 e)

    go : Ok (eqb k 3) ⊎ Ok (eqb k 9 or eqb k 12) → held_here k ≡ false
    go (inl e) = held_at k 3 refl (ok-eq k 3 e)
    go (inr e) = more (or_cases _ _ e)

pub steady-held : {o : Operand} → Sound steady o → held_here o.kind ≡ false
steady-held {o} s = held_by_lem o.kind s.taken

pub held_of : {o o' : Operand} → o ≡ o' → Sound steady o' → held_here o.kind ≡ false
held_of e s = ap (λ (x : Operand). held_here x.kind) e ∙ steady-held s

-- an operand's address, as the code works it out
pub spot-of : (z : List ℕ) {o o' : Operand} {a : ℕ} → spot_of cfp_b z o ≡ address a → o ≡ o' → spot_of cfp_b z o' ≡ address a
spot-of z {a = a} e h = subst (λ (x : Operand). spot_of cfp_b z x ≡ address a) h e

-- the pair at an operand whose address is a, and a store to it
module _ (z m : List ℕ) (o : Operand) {a : ℕ} {p : Option ℕ} (e : spot_of cfp_b z o ≡ address a) (h : cell_of p ≡ word_at (length m) a) where
  pub pair-outside : p ≡ None → missing ≡ pair_of z m o
  unfolding pair_of
  pair-outside q = rw (e, ← h, q)

  pub pair-words : {i : ℕ} → p ≡ Some i → i + 1 < length m → words (m at i) (m at (i + 1)) ≡ pair_of z m o
  unfolding pair_of if
  pair-words {i} q k = rw (e, ← h, q, lt-ltb (i + 1) (length m) k)

  pub pair-past : {i : ℕ} → p ≡ Some i → length m ≤ i + 1 → missing ≡ pair_of z m o
  unfolding pair_of if
  pair-past {i} q k = rw (e, ← h, q, le-ltb (i + 1) (length m) k)

  module _ (way : ℕ → ℕ) (c v w : ℕ) where
    pub store-outside : p ≡ None → shown (trap_number bad_address) z m ≡ answered way z m (stores_pair c z m o v w)
    unfolding stores_pair
    store-outside q = rw (e, ← h, q)

    pub store-past : {i : ℕ} → p ≡ Some i → length m ≤ i + 1 → shown (trap_number bad_address) z m ≡ answered way z m (stores_pair c z m o v w)
    unfolding stores_pair if
    store-past {i} q k = rw (e, ← h, q, le-ltb (i + 1) (length m) k)

    pub store-constant : {i : ℕ} → p ≡ Some i → i + 1 < length m → i < c → shown (trap_number constant_write) z m ≡ answered way z m (stores_pair c z m o v w)
    unfolding stores_pair if
    store-constant {i} q k j = rw (e, ← h, q, lt-ltb (i + 1) (length m) k, lt-ltb i c j)

    pub store_words : {i : ℕ} → p ≡ Some i → i + 1 < length m → c ≤ i → shown (way 0) z (set (set m i v) (i + 1) w) ≡ answered way z m (stores_pair c z m o v w)
    unfolding stores_pair if
    store_words {i} q k j = rw (e, ← h, q, lt-ltb (i + 1) (length m) k, le-ltb i c j)

-- an operation that loads a real: its operand is missing, or got, and y are the words after it
module _ (way : ℕ → ℕ) (z m : List ℕ) (o : Operand) (f : Real → Real) {r : Option (ℕ × ℕ)} (e : pair_view r ≡ pair_of z m o) where
  pub load-missing : r ≡ None → shown (trap_number bad_address) z m ≡ answered way z m (loads_real z m o f)
  unfolding loads_real
  load-missing h = rw (← e, h)

  pub load-words : {v w : ℕ} {x : Real} {y : List ℕ} → r ≡ Some (v, w) → y ≡ settled x z → x ≡ f (real_of v w) → shown (way 0) y m ≡ answered way z m (loads_real z m o f)
  unfolding loads_real
  load-words h k j = rw (← e, h) (ap (λ (l : List ℕ). shown (way 0) l m) (k ∙ ap (λ (q : Real). settled q z) j))

-- the four operations that compute, as `doing` has them; the operand is missing, or got
module _ (t : List ℕ) (b : ℕ) (z m : List ℕ) where
  computes : (o : Arithmetic) → loads_real z m (operand_at t (b + 1)) (both (on_values o) (ra_of z)) ≡ effect_at t b 0 0 z m (computing o)
  computes Sum = refl
  computes Difference = refl
  computes Product = refl
  computes Quotient = refl

  module _ (o : Arithmetic) {r : Option (ℕ × ℕ)} (e : pair_view r ≡ pair_of z m (operand_at t (b + 1))) where
    pub computes-missing : r ≡ None → shown (trap_number bad_address) z m ≡ does t b 0 0 z m (computing o)
    computes-missing h = load-missing (λ j. onward b) z m _ _ e h ∙ ap (answered (λ j. onward b) z m) (computes o)

    pub computes-words : {v w : ℕ} {x a c : Real} {y : List ℕ} → r ≡ Some (v, w) → y ≡ settled x z → x ≡ both (on_values o) a c → a ≡ ra_of z → c ≡ real_of v w → shown (onward b) y m ≡ does t b 0 0 z m (computing o)
    computes-words h k j p q = load-words (λ i. onward b) z m _ _ e h k (rw (p, q) at j) ∙ ap (answered (λ i. onward b) z m) (computes o)

-- the six that compare
pub compares-so : (t : List ℕ) (b : ℕ) (z m : List ℕ) (o : Comparison) {r : ℕ} {h : Bool} {x : Real} → r ≡ way_of t b (fork 1 h) → h ≡ tests (with_zero o) x → x ≡ ra_of z → shown r z m ≡ branches t b 0 0 z m (comparing o)
compares-so t b z m o {r} e h k = rw (e, h, k) (go o)
  where
    go : (o : Comparison) → shown (way_of t b (fork 1 (tests (with_zero o) (ra_of z)))) z m ≡ branches t b 0 0 z m (comparing o)
    go Equal = refl
    go NotLess = refl
    go Greater = refl
    go NotGreater = refl
    go Less = refl
    go NotEqual = refl

-- what an operation answers is no NaN
pub proper-by : (f : Float → Float → Float) {x : Real} (a b : Real) → x ≡ both f a b → T (proper x)
proper-by f a b e = subst (λ (r : Real). T (proper r)) (sym e) (proper-both f a b)

pub proper-is : {x y : Real} → x ≡ y → T (proper y) → T (proper x)
proper-is e h = subst (λ (r : Real). T (proper r)) (sym e) h

-- the words that an answer leaves, for any memory
pub settles : (way : ℕ) (z m : List ℕ) {y : List ℕ} {x x' : Real} → y ≡ settled x z → x ≡ x' → shown way y m ≡ shown way (settled x' z) m
settles way z m e h = ap (λ (l : List ℕ). shown way l m) (e ∙ ap (λ (q : Real). settled q z) h)

-- RTI, in range and out of it
pub rti-within : (way : ℕ → ℕ) (z m : List ℕ) {a w : ℕ} {r : Whole} → a ≡ way 0 → r ≡ whole_of (ra_of z) → r ≡ within w → shown a (set z IA w) m ≡ answered way z m (rti_of z m)
unfolding rti_of
rti-within way z m k e h = rw (← e, h, k)

pub rti-beyond : (way : ℕ → ℕ) (z m : List ℕ) {a : ℕ} {r : Whole} → a ≡ way 1 → r ≡ whole_of (ra_of z) → r ≡ beyond → shown a z m ≡ answered way z m (rti_of z m)
unfolding rti_of
rti-beyond way z m k e h = rw (← e, h, k)

-- the answers that go on: by 0, and by 1 where operand one is left out
pub way_on : (t : List ℕ) (b : ℕ) → b + 72 ≡ way_of t b 0
unfolding way_of if
way_on t b = refl

pub way-none : (t : List ℕ) (b : ℕ) → (t at (b + 1) ≡ 6 → ⊥) → b + 72 ≡ way_of t b 1
unfolding way_of if
way-none t b h = rw (ne_eqb (t at (b + 1)) 6 h)
