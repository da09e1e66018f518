-- Characters copied to a place d above their own repeat: the rest may as well be copied from where they began to the place 2 * d above.
-- Assumes nothing.
use Prim.Native.Nat.{ℕ, zero, suc, ◌+◌, ◌-◌, ◌*◌, ◌≤◌, ◌<◌}
use mathlib.Core.Path.{◌≡◌, refl, sym, ap, ◌∙◌}
use mathlib.Core.Bool.{Bool, true, false}
use mathlib.Core.List.{List}
use native.Mathlib.Omega.{arith}
use lib.Dec.{eqb}
use lib.ListN.{length}
use borrow.Author.Tests.{eqb-true, eqb-false}
use Rattle.rules.specs.Operand.{char_in, with_char}
use Rattle.rules.specs.Exec.{copied_chars, copied_words}
use Rattle.block_chars.specs.Chars.{Within}
use Rattle.block_chars.proofs.Laws.{AllWords, length-with_char, char-lt, stored, elsewhere}
use Rattle.block_copy.proofs.Four.{same-counts}
use Rattle.block_copy.proofs.Whole.{copied-split, copied-aligned}

-- what is below the target stays
below : (n f g : ℕ) (m : List ℕ) (e : ℕ) → Within m g n → e < g → char_in (copied_chars n f g m) e ≡ char_in m e
unfolding copied_chars
below zero f g m e l h = refl
below (suc n) f g m e l h =
    below n (suc f) (suc g) (with_char m g (char_in m f)) e (rw (length-with_char m g (char_in m f)) (omega arith)) (omega arith)
    ∙ elsewhere m g (char_in m f) e (omega arith) (char-lt m f) (λ q. omega arith)

module _ (d : ℕ) (some : 0 < d) where
  -- k characters from f on repeat d further on
  abbrev pub Repeats : ℕ → ℕ → List ℕ → Type 0
  Repeats k f m = (i : ℕ) → i < k → char_in m (f + i) ≡ char_in m (f + i + d)

  -- once k are copied they do
  pub repeats : (k f : ℕ) (m : List ℕ) → Within m (f + d) k → Repeats k f (copied_chars k f (f + d) m)
  unfolding copied_chars
  repeats zero f m l i h = absurd (omega arith)
  repeats (suc k) f m l zero h =
      let y = with_char m (f + d) (char_in m f) in
      let w : Within y (suc (f + d)) k = rw (length-with_char m (f + d) (char_in m f)) (omega arith) in
      below k (suc f) (suc (f + d)) y (f + 0) w (omega arith)
      ∙ elsewhere m (f + d) (char_in m f) (f + 0) (omega arith) (char-lt m f) (λ q. omega arith)
      ∙ ap (λ (a : ℕ). char_in m a) {x = f + 0} {y = f} (omega arith)
      ∙ sym (stored m (f + d) (char_in m f) (omega arith) (char-lt m f))
      ∙ ap (λ (a : ℕ). char_in y a) {x = f + d} {y = f + 0 + d} (omega arith)
      ∙ sym (below k (suc f) (suc (f + d)) y (f + 0 + d) w (omega arith))
  repeats (suc k) f m l (suc i) h =
      let y = with_char m (f + d) (char_in m f) in
      let w : Within y (suc f + d) k = rw (length-with_char m (f + d) (char_in m f)) (omega arith) in
      let e : copied_chars k (suc f) (suc f + d) y ≡ copied_chars k (suc f) (suc (f + d)) y = same-counts y {n = k} {n' = k} {f = suc f} {f' = suc f} {g = suc f + d} {g' = suc (f + d)} refl refl (omega arith) in
      ap (λ (a : ℕ). char_in (copied_chars k (suc f) (suc (f + d)) y) a) {x = f + suc i} {y = suc f + i} (omega arith)
      ∙ ap (λ (x : List ℕ). char_in x (suc f + i)) (sym e)
      ∙ repeats k (suc f) y w i (omega arith)
      ∙ ap (λ (x : List ℕ). char_in x (suc f + i + d)) e
      ∙ ap (λ (a : ℕ). char_in (copied_chars k (suc f) (suc (f + d)) y) a) {x = suc f + i + d} {y = f + suc i + d} (omega arith)

  -- and from the next on still do, with one more
  one_more_lem : (f : ℕ) (m : List ℕ) → Repeats d f m → Within m (f + d + d) 1 → Repeats d (suc f) (with_char m (f + d + d) (char_in m f))
  one_more_lem f m r l i h =
      elsewhere m (f + d + d) (char_in m f) (suc f + i) l (char-lt m f) (λ q. omega arith)
      ∙ go (eqb (suc i) d) refl
    where
      go : (t : Bool) → eqb (suc i) d ≡ t → char_in m (suc f + i) ≡ char_in (with_char m (f + d + d) (char_in m f)) (suc f + i + d)
      go true q =
          let e = eqb-true (suc i) d q in
          ap (λ (a : ℕ). char_in m a) {x = suc f + i} {y = f + 0 + d} (omega (arith, e))
          ∙ sym (r 0 some)
          ∙ ap (λ (a : ℕ). char_in m a) {x = f + 0} {y = f} (omega arith)
          ∙ sym (stored m (f + d + d) (char_in m f) l (char-lt m f))
          ∙ ap (λ (a : ℕ). char_in (with_char m (f + d + d) (char_in m f)) a) {x = f + d + d} {y = suc f + i + d} (omega (arith, e))
      go false q =
          let e = eqb-false (suc i) d q in
          let k : suc i < d = omega (arith, e) in
          ap (λ (a : ℕ). char_in m a) {x = suc f + i} {y = f + suc i} (omega arith)
          ∙ r (suc i) k
          ∙ ap (λ (a : ℕ). char_in m a) {x = f + suc i + d} {y = suc f + i + d} (omega arith)
          ∙ sym (elsewhere m (f + d + d) (char_in m f) (suc f + i + d) l (char-lt m f) (λ x. omega (arith, k, x)))

  -- so they may be copied from d before
  same_source : (n f : ℕ) (m : List ℕ) → Repeats d f m → Within m (f + d + d) n → copied_chars n (f + d) (f + d + d) m ≡ copied_chars n f (f + d + d) m
  unfolding copied_chars
  same_source zero f m r l = refl
  same_source (suc n) f m r l =
      let g = f + d + d in
      let y = with_char m g (char_in m f) in
      ap (λ (b : ℕ). copied_chars n (suc (f + d)) (suc g) (with_char m g b)) (ap (λ (a : ℕ). char_in m a) {x = f + d} {y = f + 0 + d} (omega arith) ∙ sym (r 0 some) ∙ ap (λ (a : ℕ). char_in m a) {x = f + 0} {y = f} (omega arith))
      ∙ same-counts y {n = n} {n' = n} {f = suc (f + d)} {f' = suc f + d} {g = suc g} {g' = suc f + d + d} refl (omega arith) (omega arith)
      ∙ same_source n (suc f) y (one_more_lem f m r (omega arith)) (rw (length-with_char m g (char_in m f)) (omega arith))
      ∙ same-counts y {n = n} {n' = n} {f = suc f} {f' = suc f} {g = suc f + d + d} {g' = suc g} refl refl (omega arith)

-- d characters, then the rest from the start to 2 * d above it
pub doubled : (n d f : ℕ) (m m1 : List ℕ) → 0 < d → d ≤ n → Within m (f + d) n → m1 ≡ copied_chars d f (f + d) m → length m1 ≡ length m
    → copied_chars n f (f + d) m ≡ copied_chars (n - d) f (f + (d + d)) m1
doubled n d f m m1 h l w e s =
    ap (λ (i : ℕ). copied_chars i f (f + d) m) {x = n} {y = d + (n - d)} (omega arith)
    ∙ copied-split d (n - d) f (f + d) m
    ∙ ap (λ (y : List ℕ). copied_chars (n - d) (f + d) (f + d + d) y) (sym e)
    ∙ same_source d h (n - d) f m1 (λ i k. rw e (repeats d h d f m (omega arith) i k)) (rw s (omega arith))
    ∙ same-counts m1 {n = n - d} {n' = n - d} {f = f} {f' = f} {g = f + d + d} {g' = f + (d + d)} refl refl (omega arith)

-- the same of words
pub doubled-words : (n d f : ℕ) (m m1 : List ℕ) → AllWords m → AllWords m1 → 0 < d → d ≤ n → f + d + n ≤ length m → m1 ≡ copied_words d f (f + d) m → length m1 ≡ length m
    → copied_words n f (f + d) m ≡ copied_words (n - d) f (f + (d + d)) m1
doubled-words n d f m m1 a b h l w e s =
    sym (copied-aligned n f (f + d) m a w)
    ∙ same-counts m {n = 4 * n} {n' = 4 * n} {f = 4 * f} {f' = 4 * f} {g = 4 * (f + d)} {g' = 4 * f + 4 * d} refl refl (omega arith)
    ∙ doubled (4 * n) (4 * d) (4 * f) m m1 (omega arith) (omega arith) (omega arith)
    (e ∙ sym (copied-aligned d f (f + d) m a (omega arith)) ∙ same-counts m {n = 4 * d} {n' = 4 * d} {f = 4 * f} {f' = 4 * f} {g = 4 * (f + d)} {g' = 4 * f + 4 * d} refl refl (omega arith)) s
    ∙ same-counts m1 {n = 4 * n - 4 * d} {n' = 4 * (n - d)} {f = 4 * f} {f' = 4 * f} {g = 4 * f + (4 * d + 4 * d)} {g' = 4 * (f + (d + d))} (omega arith) refl (omega arith)
    ∙ copied-aligned (n - d) f (f + (d + d)) m1 b (omega (arith, s))
