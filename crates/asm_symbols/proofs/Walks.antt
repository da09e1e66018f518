-- Laws of a walk over the fields of a name: symbol i is a field, or is passed, or the symbols are at their end.
-- Assumes nothing.
use Prim.Native.Nat.{ℕ, zero, suc, ◌+◌, ◌*◌, ◌-◌, ◌<◌, ◌≤◌}
use mathlib.Core.Path.{◌≡◌, refl, sym, ap, ◌∙◌}
use mathlib.Core.Bool.{Bool, true, false}
use mathlib.Core.List.{List, [], ◌∷◌}
use native.Mathlib.Omega.{arith}
use native.Mathlib.Numerals.{add-one}
use borrow.Author.Tests.{eq-eqb, ne_eqb, lt-ltb, le-ltb}
use lib.Dec.{eqb, ltb}
use lib.ListN.{get_or}
use Rattle.base.specs.Test.{if}
use Rattle.language.specs.Symbol.{Symbol, above, fields_named}
use Rattle.asm_types.specs.Views.{symbol_at, symbols_from, symbols_in}
use Rattle.asm_symbols.specs.Walk.{Next, NextAbove, above_from, named_from}

module _ (xs : List ℕ) (n k : ℕ) where
  pub named-all : named_from xs n 0 k ≡ fields_named k (symbols_in xs n)
  unfolding named_from
  named-all = let e : n - 0 ≡ n = omega arith in rw e refl

  pub named_here : (i : ℕ) → i < n → get_or xs (5 * i) 0 ≡ k → named_from xs n i k ≡ symbol_at xs i ∷ named_from xs n (i + 1) k
  unfolding named_from symbols_from fields_named if
  named_here i h e =
      let m : n - i ≡ suc (n - (i + 1)) = omega arith in rw (m, eq-eqb k (get_or xs (5 * i) 0) (sym e), add-one i) refl

  pub named_past : (i : ℕ) → i < n → (get_or xs (5 * i) 0 ≡ k → ⊥) → named_from xs n i k ≡ named_from xs n (i + 1) k
  unfolding named_from symbols_from fields_named if
  named_past i h e =
      let m : n - i ≡ suc (n - (i + 1)) = omega arith in rw (m, ne_eqb k (get_or xs (5 * i) 0) (λ q. e (sym q)), add-one i) refl

  pub named_end : (i : ℕ) → n ≤ i → named_from xs n i k ≡ []
  unfolding named_from symbols_from fields_named
  named_end i h = let m : n - i ≡ 0 = omega arith in rw m refl

  -- the same of the fields above a line
  module _ (l : ℕ) where
    pub above-all : above_from xs n 0 k l ≡ above l (fields_named k (symbols_in xs n))
    unfolding above_from
    above-all = ap (above l) named-all

    pub above-here : (i : ℕ) → i < n → get_or xs (5 * i) 0 ≡ k → get_or xs (5 * i + 1) 0 < l
        → above_from xs n i k l ≡ symbol_at xs i ∷ above_from xs n (i + 1) k l
    unfolding above_from above if
    above-here i h e b = rw (named_here i h e, lt-ltb (get_or xs (5 * i + 1) 0) l b) refl

    pub above-past : (i : ℕ) → i < n → get_or xs (5 * i) 0 ≡ k → l ≤ get_or xs (5 * i + 1) 0
        → above_from xs n i k l ≡ above_from xs n (i + 1) k l
    unfolding above_from above if
    above-past i h e b = rw (named_here i h e, le-ltb (get_or xs (5 * i + 1) 0) l b) refl

    pub above-end : (i : ℕ) → n ≤ i → above_from xs n i k l ≡ []
    unfolding above_from above
    above-end i h = rw (named_end i h) refl

    pub above_same : (i j : ℕ) → named_from xs n i k ≡ named_from xs n j k → above_from xs n i k l ≡ above_from xs n j k l
    unfolding above_from
    above_same i j e = ap (above l) e

-- what a walk from the first symbol on has found
module _ (xs : List ℕ) (n k r : ℕ) (w : Next xs n 0 k r) where
  pub first-here : r < n → fields_named k (symbols_in xs n) ≡ symbol_at xs r ∷ named_from xs n (r + 1) k
  first-here h = sym (named-all xs n k) ∙ w.same ∙ named_here xs n k r h (w.here h)

  pub first-none : r ≡ n → fields_named k (symbols_in xs n) ≡ []
  first-none e = sym (named-all xs n k) ∙ w.same ∙ named_end xs n k r (omega arith)

module _ (xs : List ℕ) (n i k l r : ℕ) (w : NextAbove xs n i k l r) where
  pub next_here : r < n → above_from xs n i k l ≡ symbol_at xs r ∷ above_from xs n (r + 1) k l
  next_here h = w.same ∙ above-here xs n k l r h (w.here h) (w.over h)

  pub next-none : n ≤ r → above_from xs n i k l ≡ []
  next-none e = w.same ∙ above-end xs n k l r e

-- one field above the line, or two and those that follow
module _ (xs : List ℕ) (n k l i j : ℕ) (v : NextAbove xs n 0 k l i) (w : NextAbove xs n (i + 1) k l j) (h : i < n) where
  pub above-one : n ≤ j → above l (fields_named k (symbols_in xs n)) ≡ symbol_at xs i ∷ []
  above-one g =
      sym (above-all xs n k l)
      ∙ next_here xs n 0 k l i v h
      ∙ ap (λ (ys : List Symbol). symbol_at xs i ∷ ys) (next-none xs n (i + 1) k l j w g)

  pub above-two : j < n → above l (fields_named k (symbols_in xs n)) ≡ symbol_at xs i ∷ symbol_at xs j ∷ above_from xs n (j + 1) k l
  above-two g =
      sym (above-all xs n k l)
      ∙ next_here xs n 0 k l i v h
      ∙ ap (λ (ys : List Symbol). symbol_at xs i ∷ ys) (next_here xs n (i + 1) k l j w g)
