-- Sorts by their numbers: a test of sorts is one of numbers, by one computed test over all of them.
-- Assumes nothing.
use Prim.Native.Nat.{ℕ, ◌<◌, ◌≤◌}
use mathlib.Core.Path.{◌≡◌, refl, sym, ap, ◌∙◌}
use mathlib.Core.Bool.{Bool, true, false}
use mathlib.Core.List.{List, [], ◌∷◌}
use native.Mathlib.Omega.{arith}
use borrow.Author.Tests.{ne_eqb}
use lib.Dec.{eqb, leb}
use Rattle.base.specs.Test.{◌and◌, ◌or◌, if, Ok}
use Rattle.base.proofs.Bool.{ok-eq}
use Rattle.ops.proofs.Every.{every, every-at}
use Rattle.language.specs.Symbol.{Sort, bare, carries, entry, equal, external, global, internal, is_sort, labelless, pairs, plain, procedure, returns, routine, word}
use Rattle.asm_types.specs.Views.{sort_at}
use Rattle.asm_symbols.specs.Symbolic.{last_sort}
use Rattle.asm_symbols.specs.Walk.{among, declares, pairs_by, sort_code, two_by}

-- two tests agree
unfoldable pub agree : Bool → Bool → Bool
agree a b = if a b (if b false true)

pub agree-is : (a b : Bool) → Ok (agree a b) → a ≡ b
unfolding agree if Ok
agree-is true true h = refl
agree-is true false h = absurd h
agree-is false true h = absurd h
agree-is false false h = refl

-- the numbers of sorts
abbrev numbers : List ℕ
numbers = 0 ∷ 1 ∷ 2 ∷ 3 ∷ 4 ∷ 5 ∷ 6 ∷ 7 ∷ 8 ∷ 9 ∷ 10 ∷ 11 ∷ []

-- a test that passes at each number passes at the number of a sort
at-number : (p : ℕ → Bool) → Ok (every (λ (i : ℕ) (x : ℕ). p i) 0 numbers) → (a : ℕ) → a ≤ last_sort → Ok (p a)
at-number p t a h = every-at (λ (i : ℕ) (x : ℕ). p i) 0 numbers t a (omega arith)

at-numbers : (p : ℕ → ℕ → Bool) → Ok (every (λ (i : ℕ) (x : ℕ). every (λ (j : ℕ) (y : ℕ). p i j) 0 numbers) 0 numbers)
    → (a b : ℕ) → a ≤ last_sort → b ≤ last_sort → Ok (p a b)
at-numbers p t a b h g = at-number (p a) (at-number (λ i. every (λ (j : ℕ) (y : ℕ). p i j) 0 numbers) t a h) b g

code_is : ℕ → Bool
code_is a = eqb (sort_code (sort_at a)) a

pub sort-code : (a : ℕ) → a ≤ last_sort → sort_code (sort_at a) ≡ a
unfolding code_is Ok ◌and◌
sort-code a h = ok-eq _ _ (at-number code_is tt a h)

same_by : ℕ → ℕ → Bool
same_by a b = agree (is_sort (sort_at a) (sort_at b)) (eqb a b)

pub is-sort : (a b : ℕ) → a ≤ last_sort → b ≤ last_sort → is_sort (sort_at a) (sort_at b) ≡ eqb a b
unfolding same_by agree if Ok ◌and◌
is-sort a b h g = agree-is _ _ (at-numbers same_by tt a b h g)

pairs_agree : ℕ → ℕ → Bool
pairs_agree a b = agree (pairs (sort_at a) (sort_at b)) (pairs_by a b)

pub pairs-by : (a b : ℕ) → a ≤ last_sort → b ≤ last_sort → pairs (sort_at a) (sort_at b) ≡ pairs_by a b
unfolding pairs_agree agree if Ok ◌and◌ ◌or◌ pairs pairs_by among
pairs-by a b h g = agree-is _ _ (at-numbers pairs_agree tt a b h g)

two_agree : ℕ → ℕ → Bool
two_agree a b =
    agree (is_sort routine (sort_at a) and is_sort global (sort_at b) or is_sort global (sort_at a) and is_sort routine (sort_at b)) (two_by a b)

pub two-by : (a b : ℕ) → a ≤ last_sort → b ≤ last_sort
    → is_sort routine (sort_at a) and is_sort global (sort_at b) or is_sort global (sort_at a) and is_sort routine (sort_at b) ≡ two_by a b
unfolding two_agree agree if Ok ◌and◌ ◌or◌ two_by
two-by a b h g = agree-is _ _ (at-numbers two_agree tt a b h g)

single_agree : ℕ → ℕ → Bool
single_agree a b = agree (is_sort (sort_at a) (sort_at b)) (among a a b)

single-by : (a b : ℕ) → a ≤ last_sort → b ≤ last_sort → is_sort (sort_at a) (sort_at b) ≡ among a a b
unfolding single_agree agree if Ok ◌and◌ among
single-by a b h g = agree-is _ _ (at-numbers single_agree tt a b h g)

-- each sort has a number
pub code-sort : (b : Sort) → (sort_at (sort_code b) ≡ b) × (sort_code b ≤ last_sort)
code-sort bare = (refl, omega arith)
code-sort external = (refl, omega arith)
code-sort internal = (refl, omega arith)
code-sort routine = (refl, omega arith)
code-sort global = (refl, omega arith)
code-sort equal = (refl, omega arith)
code-sort word = (refl, omega arith)
code-sort entry = (refl, omega arith)
code-sort procedure = (refl, omega arith)
code-sort returns = (refl, omega arith)
code-sort plain = (refl, omega arith)
code-sort labelless = (refl, omega arith)

-- one sort, and the sorts of cards that may carry a label, by their numbers
pub single : (a : ℕ) → a ≤ last_sort → (b : Sort) → is_sort (sort_at a) b ≡ among a a (sort_code b)
single a h b = ap (is_sort (sort_at a)) (sym (code-sort b).0) ∙ single-by a (sort_code b) h (code-sort b).1

carries_agree : ℕ → Bool
carries_agree a = agree (carries (sort_at a)) (among 7 10 a)

pub carries-by : (b : Sort) → carries b ≡ among 7 10 (sort_code b)
unfolding carries_agree agree if Ok ◌and◌ ◌or◌ among
carries-by b = ap carries (sym (code-sort b).0) ∙ agree-is _ _ (at-number carries_agree tt (sort_code b) (code-sort b).1)

-- a third field is an RTN
module _ (x : Bool) (d : ℕ) where
  pub third-is : d ≡ 9 → (x and is_sort returns (sort_at d)) ≡ x
  unfolding ◌and◌
  third-is e = rw e (go x)
    where
      go : (b : Bool) → (b and true) ≡ b
      go true = refl
      go false = refl

  pub third-not : d ≤ last_sort → (d ≡ 9 → ⊥) → (x and is_sort returns (sort_at d)) ≡ false
  unfolding ◌and◌
  third-not h e = rw (is-sort 9 d (omega arith) h, ne_eqb 9 d (λ q. e (sym q))) (go x)
    where
      go : (b : Bool) → (b and false) ≡ false
      go true = refl
      go false = refl
