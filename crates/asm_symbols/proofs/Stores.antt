-- Laws of one symbol more: the five words stored behind n symbols are symbol n, and the symbols before it stay.
-- Assumes nothing.
use Prim.Native.Nat.{ℕ, zero, suc, ◌+◌, ◌*◌, ◌<◌, ◌≤◌}
use mathlib.Core.Path.{◌≡◌, refl, sym, ap, ◌∙◌}
use mathlib.Core.List.{List, [], ◌∷◌, ◌++◌}
use mathlib.Core.Logic.{◌≢◌, ⊎_elim}
use native.Mathlib.Omega.{arith}
use native.Mathlib.Numerals.{add-one}
use lib.ListN.{length, get_or, set, length-set}
use lib.Seq.{get_or-set_same, get_or-set_other}
use Rattle.rules.proofs.Facts.{lt-suc-cases}
use Rattle.language.specs.Symbol.{Symbol}
use Rattle.asm_types.specs.Views.{most_word, sort_at, symbol_at, symbols_from, symbols_in}
use Rattle.asm_symbols.specs.Symbolic.{Added, Symbolic, first_placed, last_sort, most_places, symbol_of}

-- one symbol more at the end
symbols-snoc : (xs : List ℕ) (m i : ℕ) → symbols_from xs i (suc m) ≡ symbols_from xs i m ++ (symbol_at xs (i + m) ∷ [])
unfolding symbols_from
symbols-snoc xs zero i = let e : i + 0 ≡ i = omega arith in rw e refl
symbols-snoc xs (suc m) i =
    let e : suc i + m ≡ i + suc m = omega arith in
    let ih : symbols_from xs (suc i) (suc m) ≡ symbols_from xs (suc i) m ++ (symbol_at xs (i + suc m) ∷ []) = rw (← e) (symbols-snoc xs m (suc i)) in
    ap (λ (ys : List Symbol). symbol_at xs i ∷ ys) ih

-- symbols whose words are the same
symbols-same : (xs ys : List ℕ) (n : ℕ) → ((j : ℕ) → j < 5 * n → get_or ys j 0 ≡ get_or xs j 0)
    → (m i : ℕ) → i + m ≤ n → symbols_from ys i m ≡ symbols_from xs i m
unfolding symbols_from
symbols-same xs ys n h zero i g = refl
symbols-same xs ys n h (suc m) i g =
    rw (h (5 * i) (omega arith), h (5 * i + 1) (omega arith), h (5 * i + 2) (omega arith), h (5 * i + 3) (omega arith), h (5 * i + 4) (omega arith), symbols-same xs ys n h m (suc i) (omega arith))
    refl

module _ (xs : List ℕ) (b k l a v t : ℕ) (h : b + 5 ≤ length xs) where
  s1 : List ℕ
  s1 = set xs b k

  s2 : List ℕ
  s2 = set s1 (b + 1) l

  s3 : List ℕ
  s3 = set s2 (b + 2) a

  s4 : List ℕ
  s4 = set s3 (b + 3) v

  abbrev pub five : List ℕ
  five = set (set (set (set (set xs b k) (b + 1) l) (b + 2) a) (b + 3) v) (b + 4) t

  pub five-long : length five ≡ length xs
  five-long = simp length-set refl

  five-other : (j : ℕ) → (j ≢ b) → (j ≢ b + 1) → (j ≢ b + 2) → (j ≢ b + 3) → (j ≢ b + 4) → get_or five j 0 ≡ get_or xs j 0
  unfolding s1 s2 s3 s4
  five-other j h0 h1 h2 h3 h4 =
      get_or-set_other s4 (b + 4) j t 0 h4
      ∙ get_or-set_other s3 (b + 3) j v 0 h3
      ∙ get_or-set_other s2 (b + 2) j a 0 h2
      ∙ get_or-set_other s1 (b + 1) j l 0 h1
      ∙ get_or-set_other xs b j k 0 h0

  five-before : (j : ℕ) → j < b → get_or five j 0 ≡ get_or xs j 0
  five-before j g = five-other j (omega arith) (omega arith) (omega arith) (omega arith) (omega arith)

  five-beyond : (j : ℕ) → b + 5 ≤ j → get_or five j 0 ≡ get_or xs j 0
  five-beyond j g = five-other j (omega arith) (omega arith) (omega arith) (omega arith) (omega arith)

  five-name : get_or five b 0 ≡ k
  unfolding s1 s2 s3 s4
  five-name =
      get_or-set_other s4 (b + 4) b t 0 (omega arith)
      ∙ get_or-set_other s3 (b + 3) b v 0 (omega arith)
      ∙ get_or-set_other s2 (b + 2) b a 0 (omega arith)
      ∙ get_or-set_other s1 (b + 1) b l 0 (omega arith)
      ∙ get_or-set_same xs b k 0 (omega arith)

  five-line : get_or five (b + 1) 0 ≡ l
  unfolding s1 s2 s3 s4
  five-line =
      let g : b + 1 < length s1 = rw (length-set xs b k) (omega arith) in
      get_or-set_other s4 (b + 4) (b + 1) t 0 (omega arith)
      ∙ get_or-set_other s3 (b + 3) (b + 1) v 0 (omega arith)
      ∙ get_or-set_other s2 (b + 2) (b + 1) a 0 (omega arith)
      ∙ get_or-set_same s1 (b + 1) l 0 g

  five-sort : get_or five (b + 2) 0 ≡ a
  unfolding s1 s2 s3 s4
  five-sort =
      let g : b + 2 < length s2 = simp length-set (omega arith) in
      get_or-set_other s4 (b + 4) (b + 2) t 0 (omega arith)
      ∙ get_or-set_other s3 (b + 3) (b + 2) v 0 (omega arith)
      ∙ get_or-set_same s2 (b + 2) a 0 g

  five-value : get_or five (b + 3) 0 ≡ v
  unfolding s1 s2 s3 s4
  five-value =
      let g : b + 3 < length s3 = simp length-set (omega arith) in
      get_or-set_other s4 (b + 4) (b + 3) t 0 (omega arith) ∙ get_or-set_same s3 (b + 3) v 0 g

  five-letter : get_or five (b + 4) 0 ≡ t
  unfolding s1 s2 s3 s4
  five-letter = let g : b + 4 < length s4 = simp length-set (omega arith) in get_or-set_same s4 (b + 4) t 0 g

module _ (xs : List ℕ) (n k l a v t : ℕ) (w : Symbolic xs n) (h : 5 * n + 5 ≤ length xs) (sort_le : a ≤ last_sort) (value-le : v ≤ most_word)
    (place_le : first_placed ≤ a → v ≤ most_places) where
  abbrev ys : List ℕ
  ys = five xs (5 * n) k l a v t h

  before-sort : (i : ℕ) → i < n → get_or ys (5 * i + 2) 0 ≡ get_or xs (5 * i + 2) 0
  before-sort i g = five-before xs (5 * n) k l a v t h (5 * i + 2) (omega arith)

  before-value : (i : ℕ) → i < n → get_or ys (5 * i + 3) 0 ≡ get_or xs (5 * i + 3) 0
  before-value i g = five-before xs (5 * n) k l a v t h (5 * i + 3) (omega arith)

  new-symbol : symbol_at ys n ≡ symbol_of k l a v t
  new-symbol =
      rw (five-name xs (5 * n) k l a v t h, five-line xs (5 * n) k l a v t h, five-sort xs (5 * n) k l a v t h, five-value xs (5 * n) k l a v t h, five-letter xs (5 * n) k l a v t h)
      refl

  pub added : Added xs n k l a v t ys
  added =
      record {
        symbols =
            rw (add-one n)
            (symbols-snoc ys n 0
            ∙ let e : 0 + n ≡ n = omega arith in
            rw (e, new-symbol, symbols-same xs ys n (five-before xs (5 * n) k l a v t h) n 0 (omega arith)) refl);
        symbolic =
            record {
              room = rw (five-long xs (5 * n) k l a v t h) (omega arith);
              sorts = λ i g.
                  ⊎_elim (λ (q : i < n). rw (before-sort i q) (w.sorts i q)) (λ (q : i ≡ n). rw (q, five-sort xs (5 * n) k l a v t h) sort_le)
                  (lt-suc-cases i n (omega arith));
              values = λ i g.
                  ⊎_elim (λ (q : i < n). rw (before-value i q) (w.values i q)) (λ (q : i ≡ n). rw (q, five-value xs (5 * n) k l a v t h) value-le)
                  (lt-suc-cases i n (omega arith));
              places = λ i g.
                  ⊎_elim (λ (q : i < n). rw (before-value i q, before-sort i q) (w.places i q))
                  (λ (q : i ≡ n). rw (q, five-sort xs (5 * n) k l a v t h, five-value xs (5 * n) k l a v t h) place_le)
                  (lt-suc-cases i n (omega arith));
            };
        before = five-before xs (5 * n) k l a v t h;
        beyond = five-beyond xs (5 * n) k l a v t h;
        long = five-long xs (5 * n) k l a v t h;
      }

-- no symbol yet
pub symbolic-none : (xs : List ℕ) → Symbolic xs 0
symbolic-none xs =
    record {
      room = omega arith;
      sorts = λ i h. absurd (omega arith);
      values = λ i h. absurd (omega arith);
      places = λ i h. absurd (omega arith);
    }
