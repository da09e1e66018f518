-- Memory word by word: the table's words, the host's fresh ones, and zeros behind them.
-- Assumes nothing.
use Prim.Native.Nat.{ℕ, zero, suc, ◌+◌, ◌-◌, ◌<◌, ◌≤◌}
use mathlib.Core.Path.{◌≡◌, refl, sym, ap, ◌∙◌}
use mathlib.Core.Bool.{Bool, true, false}
use mathlib.Core.List.{List, [], ◌∷◌, ◌++◌}
use native.Mathlib.Decide.{ℕ_discrete}
use native.Mathlib.Omega.{arith}
use lib.Dec.{ltb}
use lib.ListN.{length, length-replicate, length-set, replicate, set, take}
use lib.Seq.{ext_get_or, get_or-set_same, get_or-set_other}
use borrow.Author.Tests.{ltb-true, ltb-false}
use Rattle.base.specs.Lists.{◌at◌}
use Rattle.rules.specs.Table.{entry_at, externals, fresh_count, fresh_index, size, start_word}
use Rattle.rules.specs.Start.{filled, supplied}
use Rattle.rules.proofs.Memory.{zeros-at}

-- one more fresh word is supplied
pub supply-next : (t fs mem now : List ℕ) (i p : ℕ) → p ≡ fresh_index t i → now ≡ supplied t fs i mem
    → set now p (fs at i) ≡ supplied t fs (i + 1) mem
unfolding supplied
supply-next t fs mem now i p e h =
    let s : i + 1 ≡ suc i = omega arith in
    rw (h, e, s)

-- one more word of the table is filled in
pub fill-next : (t mem now : List ℕ) (i from : ℕ) → from ≡ entry_at (size t) + fresh_count t + externals t → now ≡ filled t i mem
    → set now i (t at (from + i)) ≡ filled t (i + 1) mem
unfolding filled start_word
fill-next t mem now i from e h =
    let s : i + 1 ≡ suc i = omega arith in
    rw (h, e, s)

-- Words with zeros from word n on.

pub cleared-front : (n : ℕ) (m : List ℕ) (k p : ℕ) → p < n → (take n m ++ replicate k 0) at p ≡ m at p
cleared-front zero m k p h = absurd (omega arith)
cleared-front (suc n) [] k p h = zeros-at k p
cleared-front (suc n) (x ∷ m) k zero h = refl
cleared-front (suc n) (x ∷ m) k (suc p) h = cleared-front n m k p (omega arith)

pub cleared-behind : (n : ℕ) (m : List ℕ) (k p : ℕ) → n ≤ p → (take n m ++ replicate k 0) at p ≡ 0
cleared-behind zero m k p h = zeros-at k p
cleared-behind (suc n) [] k p h = zeros-at k p
cleared-behind (suc n) (x ∷ m) k zero h = absurd (omega arith)
cleared-behind (suc n) (x ∷ m) k (suc p) h = cleared-behind n m k p (omega arith)

pub length-cleared : (n : ℕ) (m : List ℕ) → length (take n m ++ replicate (length m - n) 0) ≡ length m
length-cleared zero m = length-replicate {A = ℕ} (length m - 0) 0 ∙ omega arith
length-cleared (suc n) [] = length-replicate {A = ℕ} (0 - suc n) 0 ∙ omega arith
length-cleared (suc n) (x ∷ m) = let e : suc (length m) - suc n ≡ length m - n = omega arith in rw e (ap suc (length-cleared n m))

-- memory m, of which the words from n to i are cleared: now
pub record Clearing (m : List ℕ) (n i : ℕ) (now : List ℕ) : Type 0 where
  pub same_length : length now ≡ length m
  pub front : (p : ℕ) → p < n → now at p ≡ m at p
  pub zeros : (p : ℕ) → n ≤ p → p < i → now at p ≡ 0

-- none is
pub clear_none : (m : List ℕ) (n i : ℕ) → i ≡ n → Clearing m n i m
clear_none m n i e = record { same_length = refl; front = λ p l. refl; zeros = λ p a b. absurd (omega arith) }

-- one more is
pub clear_next : (m : List ℕ) (n i : ℕ) (now : List ℕ) → n ≤ i → i < length now → Clearing m n i now → Clearing m n (i + 1) (set now i 0)
clear_next m n i now b l c =
    record {
      same_length = length-set now i 0 ∙ c.same_length;
      front = λ p a. get_or-set_other now i p 0 0 (λ e. omega arith) ∙ c.front p a;
      zeros = λ p a d. at_next p a d (ℕ_discrete p i);
    }
  where
    at_next : (p : ℕ) → n ≤ p → p < i + 1 → Dec (p ≡ i) → set now i 0 at p ≡ 0
    at_next p a d (yes e) = rw e (get_or-set_same now i 0 0 l)
    at_next p a d (no e) = get_or-set_other now i p 0 0 e ∙ c.zeros p a (omega arith)

-- all are
pub clear-last : (m : List ℕ) (n i : ℕ) (now : List ℕ) → length m ≤ i → Clearing m n i now → now ≡ take n m ++ replicate (length m - n) 0
clear-last m n i now b c =
    ext_get_or 0 _ _ (c.same_length ∙ sym (length-cleared n m)) (λ p l. by_front p l (ltb p n) refl)
  where
    by_front : (p : ℕ) → p < length now → (a : Bool) → ltb p n ≡ a → now at p ≡ (take n m ++ replicate (length m - n) 0) at p
    by_front p l true e = let h : p < n = ltb-true _ _ e in c.front p h ∙ sym (cleared-front n m (length m - n) p h)
    by_front p l false e =
        let h : n ≤ p = ltb-false _ _ e in
        c.zeros p h (omega (arith, c.same_length)) ∙ sym (cleared-behind n m (length m - n) p h)
