-- Laws of places: the first field whose sort lies in a range, what a declaration means by it, and that every declaration has one.
-- Assumes nothing.
use Prim.Native.Nat.{ℕ, zero, suc, ◌+◌, ◌*◌, ◌-◌, ◌<◌, ◌≤◌}
use mathlib.Core.Path.{◌≡◌, refl, sym, ap, subst, ◌∙◌}
use mathlib.Core.Bool.{Bool, true, false, not}
use mathlib.Core.List.{List, [], ◌∷◌}
use mathlib.Core.Logic.{◌⊎◌, ⊎_elim}
use native.Mathlib.Omega.{arith}
use native.Mathlib.Numerals.{add-one}
use borrow.Author.Tests.{eqb-true, eqb-false, le-ltb, leb-false, leb-true, lt-ltb, ltb-false, ltb-true, ne_eqb}
use lib.Dec.{eqb, leb, ltb}
use lib.ListN.{get_or}
use Rattle.base.specs.Test.{◌and◌, ◌or◌, if, Ok}
use Rattle.base.proofs.Bool.{and_l, and_r, failed, ok-le, true-ok}
use Rattle.rules.proofs.Facts.{lt-suc-cases}
use Rattle.language.specs.Symbol.{Sort, Symbol, all_placed, bare, carries, entry, equal, external, fields_named, first_place, global, global_meaning, has_sort, internal, is_lacking, is_sort, labelless, meaning, meaning_by, meaning_in, place_of, placed_by, plain, procedure, returns, routine, sort_of_place, word}
use Rattle.language.specs.Text as Text
use Rattle.asm_types.specs.Views.{sort_at, symbol_at, symbols_from, symbols_in}
use Rattle.asm_symbols.specs.Symbolic.{first_placed, last_sort}
use Rattle.asm_symbols.specs.Walk.{among, declares, from_sort, named_from, placed_first, some, sort_code}
use Rattle.asm_symbols.proofs.Sorts.{carries-by, code-sort, single, sort-code}
use Rattle.asm_symbols.proofs.Walks.{named-all, named_end, named_here, named_past}

and-false : (a : Bool) → (a and false) ≡ false
unfolding ◌and◌
and-false true = refl
and-false false = refl

pub among-le : (lo hi x : ℕ) → among lo hi x ≡ true → (lo ≤ x) × (x ≤ hi)
unfolding among
among-le lo hi x e = let h : Ok (leb lo x and leb x hi) = true-ok _ e in (ok-le _ _ (and_l _ _ h), ok-le _ _ (and_r _ _ h))

-- a walk at symbol i of the name
module _ (xs : List ℕ) (n k lo hi i : ℕ) (h : i < n) (e : get_or xs (5 * i) 0 ≡ k) (g : get_or xs (5 * i + 2) 0 ≤ last_sort) where
  pub of-here : among lo hi (get_or xs (5 * i + 2) 0) ≡ true → from_sort lo hi (named_from xs n i k) ≡ named_from xs n i k
  unfolding from_sort if
  of-here t = rw (named_here xs n k i h e, sort-code (get_or xs (5 * i + 2) 0) g, t) refl

  pub of-past : among lo hi (get_or xs (5 * i + 2) 0) ≡ false → from_sort lo hi (named_from xs n i k) ≡ from_sort lo hi (named_from xs n (i + 1) k)
  unfolding from_sort if
  of-past t = rw (named_here xs n k i h e, sort-code (get_or xs (5 * i + 2) 0) g, t) refl

pub of_end : (xs : List ℕ) (n k lo hi i : ℕ) → n ≤ i → from_sort lo hi (named_from xs n i k) ≡ named_from xs n i k
unfolding from_sort
of_end xs n k lo hi i h = rw (named_end xs n k i h) refl

-- a field has the sort where the walk finds one
pub has-sort : (a : ℕ) → a ≤ last_sort → (xs : List Symbol) → has_sort (sort_at a) xs ≡ some (from_sort a a xs)
unfolding from_sort ◌or◌ if
has-sort a h [] = refl
has-sort a h (x ∷ xs) = rw (single a h x.sort) (go (among a a (sort_code x.sort)) (has-sort a h xs))
  where
    go : (b : Bool) → has_sort (sort_at a) xs ≡ some (from_sort a a xs) → (b or has_sort (sort_at a) xs) ≡ some (if b (x ∷ xs) (from_sort a a xs))
    go true ih = refl
    go false ih = ih

pub some_at : (xs : List ℕ) (n k r : ℕ) → r ≤ n → (r < n → get_or xs (5 * r) 0 ≡ k) → ltb r n ≡ some (named_from xs n r k)
some_at xs n k r h e = go (ltb r n) refl
  where
    go : (b : Bool) → ltb r n ≡ b → b ≡ some (named_from xs n r k)
    go true q = let g : r < n = ltb-true r n q in rw (named_here xs n k r g (e g)) refl
    go false q = let g : n ≤ r = ltb-false r n q in rw (named_end xs n k r g) refl

-- a declaration's place: the first of one sort, or of those that may carry a label
pub placed-sort : (a : ℕ) → a ≤ last_sort → (d : Sort) (g : Bool) (xs : List Symbol)
    → placed_by (first_place (is_sort (sort_at a)) xs) (sort_at a) d g ≡ placed_first (from_sort a a xs) d g
unfolding from_sort first_place if
placed-sort a h d g [] = refl
placed-sort a h d g (x ∷ xs) = rw (single a h x.sort) (go (among a a (sort_code x.sort)) refl (placed-sort a h d g xs))
  where
    sorted : among a a (sort_code x.sort) ≡ true → sort_at a ≡ x.sort
    sorted t =
        let q = among-le a a (sort_code x.sort) t in
        let e : a ≡ sort_code x.sort = omega (arith, q.0, q.1) in
        ap sort_at e ∙ (code-sort x.sort).0

    go : (b : Bool) → among a a (sort_code x.sort) ≡ b
        → placed_by (first_place (is_sort (sort_at a)) xs) (sort_at a) d g ≡ placed_first (from_sort a a xs) d g
        → placed_by (if b (Text.parsed x.value) (first_place (is_sort (sort_at a)) xs)) (sort_at a) d g ≡ placed_first (if b (x ∷ xs) (from_sort a a xs)) d g
    go true t ih = ap (λ (s : Sort). place_of s x.value g) (sorted t)
    go false t ih = ih

pub placed-carries : (d : Sort) (g : Bool) (xs : List Symbol)
    → placed_by (first_place carries xs) (sort_of_place xs) d g ≡ placed_first (from_sort 7 10 xs) d g
unfolding from_sort first_place if
placed-carries d g [] = refl
placed-carries d g (x ∷ xs) = rw (carries-by x.sort) (go (among 7 10 (sort_code x.sort)) (placed-carries d g xs))
  where
    go : (b : Bool) → placed_by (first_place carries xs) (sort_of_place xs) d g ≡ placed_first (from_sort 7 10 xs) d g
        → placed_by (if b (Text.parsed x.value) (first_place carries xs)) (if b x.sort (sort_of_place xs)) d g
        ≡ placed_first (if b (x ∷ xs) (from_sort 7 10 xs)) d g
    go true ih = refl
    go false ih = ih

-- a GLB's place, with and without an INR
pub global-routine : (xs : List Symbol) → has_sort routine xs ≡ true → global_meaning xs ≡ placed_first (from_sort 9 9 xs) routine true
unfolding global_meaning if
global-routine xs e = rw e (placed-sort 9 (omega arith) routine true xs)

pub global-plain : (xs : List Symbol) → has_sort routine xs ≡ false → global_meaning xs ≡ placed_first (from_sort 7 10 xs) global true
unfolding global_meaning if
global-plain xs e = rw e (placed-carries global true xs)

-- what a field that declares nothing means, whatever follows it
module _ (x : Symbol) (ys : List Symbol) where
  own-by : (a : Sort) → declares (sort_code a) ≡ false → meaning_by a x ys ≡ meaning_by a x []
  unfolding declares among ◌and◌
  own-by bare h = refl
  own-by external h = refl
  own-by internal h = absurd (failed (true-ok _ (sym h)))
  own-by routine h = absurd (failed (true-ok _ (sym h)))
  own-by global h = absurd (failed (true-ok _ (sym h)))
  own-by equal h = refl
  own-by word h = refl
  own-by entry h = refl
  own-by procedure h = refl
  own-by returns h = refl
  own-by plain h = refl
  own-by labelless h = refl

  place-by : (a : Sort) → first_placed ≤ sort_code a → meaning_by a x ys ≡ place_of a x.value false
  place-by bare h = absurd (omega arith)
  place-by external h = absurd (omega arith)
  place-by internal h = absurd (omega arith)
  place-by routine h = absurd (omega arith)
  place-by global h = absurd (omega arith)
  place-by equal h = absurd (omega arith)
  place-by word h = absurd (omega arith)
  place-by entry h = refl
  place-by procedure h = refl
  place-by returns h = refl
  place-by plain h = refl
  place-by labelless h = refl

  lacks-by : (a : Sort) → declares (sort_code a) ≡ false → is_lacking (meaning_by a x ys) ≡ false
  unfolding declares among ◌and◌
  lacks-by bare h = refl
  lacks-by external h = refl
  lacks-by internal h = absurd (failed (true-ok _ (sym h)))
  lacks-by routine h = absurd (failed (true-ok _ (sym h)))
  lacks-by global h = absurd (failed (true-ok _ (sym h)))
  lacks-by equal h = refl
  lacks-by word h = refl
  lacks-by entry h = refl
  lacks-by procedure h = refl
  lacks-by returns h = refl
  lacks-by plain h = refl
  lacks-by labelless h = refl

  module _ (a : ℕ) (h : a ≤ last_sort) where
    pub own-meaning : declares a ≡ false → meaning_by (sort_at a) x ys ≡ meaning_by (sort_at a) x []
    own-meaning e = own-by (sort_at a) (rw (sort-code a h) e)

    pub place-meaning : first_placed ≤ a → meaning_by (sort_at a) x ys ≡ place_of (sort_at a) x.value false
    place-meaning e = place-by (sort_at a) (rw (sort-code a h) e)

    pub own-lacks : declares a ≡ false → is_lacking (meaning_by (sort_at a) x ys) ≡ false
    own-lacks e = lacks-by (sort_at a) (rw (sort-code a h) e)

-- the sorts that are left are those of places
pub others-placed : (a : ℕ) → (a ≡ 0 → ⊥) → (a ≡ 1 → ⊥) → (a ≡ 5 → ⊥) → (a ≡ 6 → ⊥) → declares a ≡ false → first_placed ≤ a
unfolding declares among ◌and◌
others-placed a h0 h1 h5 h6 e = go (leb 2 a) refl (leb a 4) refl e
  where
    go : (b : Bool) → leb 2 a ≡ b → (d : Bool) → leb a 4 ≡ d → (b and d) ≡ false → first_placed ≤ a
    go true p true q e' = absurd (failed (true-ok _ (sym e')))
    go true p false q e' = let g : 4 < a = leb-false a 4 q in omega arith
    go false p d q e' = let g : a < 2 = leb-false 2 a p in absurd (omega arith)

pub not-declares : (a : ℕ) → (a ≡ 2 → ⊥) → (a ≡ 3 → ⊥) → (a ≡ 4 → ⊥) → declares a ≡ false
unfolding declares among ◌and◌
not-declares a h2 h3 h4 = go (leb 2 a) refl (leb a 4) refl
  where
    go : (b : Bool) → leb 2 a ≡ b → (d : Bool) → leb a 4 ≡ d → (b and d) ≡ false
    go true p true q = let g : 2 ≤ a = leb-true 2 a p in let g' : a ≤ 4 = leb-true a 4 q in absurd (omega arith)
    go true p false q = refl
    go false p d q = refl

-- Declarations without a place.

module _ (xs : List ℕ) (n : ℕ) where
  abbrev pub lacks_at : ℕ → Bool
  lacks_at j = is_lacking (meaning (symbols_in xs n) (get_or xs (5 * j) 0))

  meaning-from : (k : ℕ) → meaning (symbols_in xs n) k ≡ meaning_in (named_from xs n 0 k)
  unfolding meaning
  meaning-from k = ap meaning_in (sym (named-all xs n k))

  -- a symbol that declares nothing lacks no place, if no symbol before it does: the first field of its name is itself or one of them
  module _ (i : ℕ) (h : i < n) (g : get_or xs (5 * i + 2) 0 ≤ last_sort) (e : declares (get_or xs (5 * i + 2) 0) ≡ false)
      (before : (j : ℕ) → j < i → lacks_at j ≡ false) where
    first-lacks : (m s : ℕ) → s + m ≡ i → named_from xs n 0 (get_or xs (5 * i) 0) ≡ named_from xs n s (get_or xs (5 * i) 0) → lacks_at i ≡ false
    first-lacks zero s q w =
        let t : s ≡ i = omega arith in
        rw (meaning-from (get_or xs (5 * i) 0), w, t, named_here xs n (get_or xs (5 * i) 0) i h refl)
        (own-lacks (symbol_at xs i) (named_from xs n (i + 1) (get_or xs (5 * i) 0)) (get_or xs (5 * i + 2) 0) g e)
    first-lacks (suc m) s q w = go (first-lacks m (s + 1)) (eqb (get_or xs (5 * s) 0) (get_or xs (5 * i) 0)) refl
      where
        go : (s + 1 + m ≡ i → named_from xs n 0 (get_or xs (5 * i) 0) ≡ named_from xs n (s + 1) (get_or xs (5 * i) 0) → lacks_at i ≡ false)
            → (b : Bool) → eqb (get_or xs (5 * s) 0) (get_or xs (5 * i) 0) ≡ b → lacks_at i ≡ false
        go ih true t =
            let z : get_or xs (5 * s) 0 ≡ get_or xs (5 * i) 0 = eqb-true _ _ t in
            subst (λ (k : ℕ). is_lacking (meaning (symbols_in xs n) k) ≡ false) z (before s (omega arith))
        go ih false t = ih (omega arith) (w ∙ named_past xs n (get_or xs (5 * i) 0) s (omega arith) (eqb-false _ _ t))

  pub lacks-next : (i : ℕ) → i < n → get_or xs (5 * i + 2) 0 ≤ last_sort → ((j : ℕ) → j < i → lacks_at j ≡ false)
      → (declares (get_or xs (5 * i + 2) 0) and lacks_at i) ≡ false → lacks_at i ≡ false
  unfolding ◌and◌
  lacks-next i h g before e = go (declares (get_or xs (5 * i + 2) 0)) refl e
    where
      go : (b : Bool) → declares (get_or xs (5 * i + 2) 0) ≡ b → (b and lacks_at i) ≡ false → lacks_at i ≡ false
      go true q e' = e'
      go false q e' = first-lacks i h g q before i 0 (omega arith) refl

  pub all_placed_lem : ((j : ℕ) → j < n → lacks_at j ≡ false) → (m i : ℕ) → i + m ≤ n → all_placed (symbols_in xs n) (symbols_from xs i m) ≡ true
  unfolding all_placed symbols_from ◌and◌
  all_placed_lem h zero i g = refl
  all_placed_lem h (suc m) i g = rw (h i (omega arith)) (all_placed_lem h m (suc i) (omega arith))

  pub not-placed : (m i j : ℕ) → i ≤ j → j < i + m → lacks_at j ≡ true → all_placed (symbols_in xs n) (symbols_from xs i m) ≡ false
  unfolding all_placed symbols_from ◌and◌
  not-placed zero i j g g' e = absurd (omega arith)
  not-placed (suc m) i j g g' e = go (not-placed m (suc i) j) (eqb i j) refl
    where
      go : (suc i ≤ j → j < suc i + m → lacks_at j ≡ true → all_placed (symbols_in xs n) (symbols_from xs (suc i) m) ≡ false)
          → (b : Bool) → eqb i j ≡ b → all_placed (symbols_in xs n) (symbols_from xs i (suc m)) ≡ false
      go ih true t = let z : i ≡ j = eqb-true _ _ t in rw (z, e) refl
      go ih false t = let z : i ≡ j → ⊥ = eqb-false _ _ t in rw (ih (omega arith) (omega arith) e) (and-false (not (lacks_at i)))
