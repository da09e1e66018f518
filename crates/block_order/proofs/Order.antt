-- Comparing by words, whole or merged, is comparing by characters: equal words are four equal characters.
-- Assumes nothing.
use Prim.Native.Nat.{ℕ, zero, suc, ◌+◌, ◌-◌, ◌*◌, ◌^◌, ◌≤◌, ◌<◌}
use mathlib.Core.Path.{◌≡◌, refl, sym, ap, ◌∙◌}
use mathlib.Core.Bool.{Bool, true, false}
use mathlib.Core.List.{List}
use native.Mathlib.Omega.{arith}
use lib.Dec.{eqb, ltb}
use borrow.Author.Tests.{ne_eqb}
use Rattle.base.specs.Test.{if}
use Rattle.base.specs.Lists.{◌at◌}
use Rattle.words.specs.Words.{byte_of}
use Rattle.rules.specs.Operand.{char_in}
use Rattle.rules.specs.Exec.{compared}
use Rattle.block_chars.specs.Chars.{merged_word}
use Rattle.block_chars.proofs.Laws.{char_of}
use Rattle.block_chars.proofs.Merge.{merged-one-chars, merged-two-chars, merged-three-chars}
use Rattle.block_order.specs.Skips.{Skips}
use Rattle.block_order.proofs.Laws.{same-counts, same-char}

-- four equal characters
module _ (m : List ℕ) where
  -- the next four characters are equal
  abbrev Four : ℕ → ℕ → Type 0
  Four a e = (j : ℕ) → compared (suc (suc (suc (suc j)))) a e m ≡ compared j (suc (suc (suc (suc a)))) (suc (suc (suc (suc e)))) m

  same-four : (a e : ℕ) → char_in m a ≡ char_in m e → char_in m (suc a) ≡ char_in m (suc e) → char_in m (suc (suc a)) ≡ char_in m (suc (suc e)) → char_in m (suc (suc (suc a))) ≡ char_in m (suc (suc (suc e))) → Four a e
  same-four a e p q r s j =
      same-char m (suc (suc (suc j))) a e p
      ∙ same-char m (suc (suc j)) (suc a) (suc e) q
      ∙ same-char m (suc j) (suc (suc a)) (suc (suc e)) r
      ∙ same-char m j (suc (suc (suc a))) (suc (suc (suc e))) s

  -- character i of word f is character k of word g
  alike : (f i g k a e : ℕ) → a ≡ 4 * f + i → e ≡ 4 * g + k → i < 4 → k < 4 → byte_of (m at f) i ≡ byte_of (m at g) k → char_in m a ≡ char_in m e
  alike f i g k a e p q h l b =
      ap (λ (x : ℕ). char_in m x) p ∙ char_of m f i h ∙ b ∙ sym (char_of m g k l) ∙ ap (λ (x : ℕ). char_in m x) (sym q)

  -- equal words
  pub four-words : (f g a e : ℕ) → a ≡ 4 * f → e ≡ 4 * g → m at f ≡ m at g → Four a e
  four-words f g a e p q w =
      same-four a e
      (alike f 0 g 0 a e (omega arith) (omega arith) (omega arith) (omega arith) (ap (λ (x : ℕ). byte_of x 0) w))
      (alike f 1 g 1 (suc a) (suc e) (omega arith) (omega arith) (omega arith) (omega arith) (ap (λ (x : ℕ). byte_of x 1) w))
      (alike f 2 g 2 (suc (suc a)) (suc (suc e)) (omega arith) (omega arith) (omega arith) (omega arith) (ap (λ (x : ℕ). byte_of x 2) w))
      (alike f 3 g 3 (suc (suc (suc a))) (suc (suc (suc e))) (omega arith) (omega arith) (omega arith) (omega arith) (ap (λ (x : ℕ). byte_of x 3) w))

  -- a merged word equal to a word
  pub four-merged : (f g r a e : ℕ) → 0 < r → r < 4 → a ≡ 4 * f + r → e ≡ 4 * g → m at f < 2 ^ 32 → merged_word (m at f) (m at (f + 1)) r ≡ m at g → Four a e
  four-merged f g zero a e h k p q l w = absurd (omega arith)
  four-merged f g (suc zero) a e h k p q l w =
      let u = m at f in
      let v = m at (f + 1) in
      let b = merged-one-chars u v (m at g) l w in
      same-four a e
      (alike f 1 g 0 a e (omega arith) (omega arith) (omega arith) (omega arith) b.0)
      (alike f 2 g 1 (suc a) (suc e) (omega arith) (omega arith) (omega arith) (omega arith) b.1)
      (alike f 3 g 2 (suc (suc a)) (suc (suc e)) (omega arith) (omega arith) (omega arith) (omega arith) b.2)
      (alike (f + 1) 0 g 3 (suc (suc (suc a))) (suc (suc (suc e))) (omega arith) (omega arith) (omega arith) (omega arith) b.3)
  four-merged f g (suc (suc zero)) a e h k p q l w =
      let u = m at f in
      let v = m at (f + 1) in
      let b = merged-two-chars u v (m at g) l w in
      same-four a e
      (alike f 2 g 0 a e (omega arith) (omega arith) (omega arith) (omega arith) b.0)
      (alike f 3 g 1 (suc a) (suc e) (omega arith) (omega arith) (omega arith) (omega arith) b.1)
      (alike (f + 1) 0 g 2 (suc (suc a)) (suc (suc e)) (omega arith) (omega arith) (omega arith) (omega arith) b.2)
      (alike (f + 1) 1 g 3 (suc (suc (suc a))) (suc (suc (suc e))) (omega arith) (omega arith) (omega arith) (omega arith) b.3)
  four-merged f g (suc (suc (suc zero))) a e h k p q l w =
      let u = m at f in
      let v = m at (f + 1) in
      let b = merged-three-chars u v (m at g) l w in
      same-four a e
      (alike f 3 g 0 a e (omega arith) (omega arith) (omega arith) (omega arith) b.0)
      (alike (f + 1) 0 g 1 (suc a) (suc e) (omega arith) (omega arith) (omega arith) (omega arith) b.1)
      (alike (f + 1) 1 g 2 (suc (suc a)) (suc (suc e)) (omega arith) (omega arith) (omega arith) (omega arith) b.2)
      (alike (f + 1) 2 g 3 (suc (suc (suc a))) (suc (suc (suc e))) (omega arith) (omega arith) (omega arith) (omega arith) b.3)
  four-merged f g (suc (suc (suc (suc r)))) a e h k p q l w = absurd (omega arith)

-- none, and four more equal characters
pub skips-none : (a e : ℕ) (m : List ℕ) → Skips 0 a e m
skips-none a e m j = same-counts m {n = 4 * 0 + j} {n' = j} {f = a} {f' = a + 4 * 0} {g = e} {g' = e + 4 * 0} (omega arith) (omega arith) (omega arith)

pub skips-more : (r a e : ℕ) (m : List ℕ) → Skips r a e m → Four m (a + 4 * r) (e + 4 * r) → Skips (r + 1) a e m
skips-more r a e m s h j =
    same-counts m {n = 4 * (r + 1) + j} {n' = 4 * r + suc (suc (suc (suc j)))} {f = a} {f' = a} {g = e} {g' = e} (omega arith) refl refl
    ∙ s (suc (suc (suc (suc j))))
    ∙ h j
    ∙ same-counts m {n = j} {n' = j} {f = suc (suc (suc (suc (a + 4 * r))))} {f' = a + 4 * (r + 1)} {g = suc (suc (suc (suc (e + 4 * r))))} {g' = e + 4 * (r + 1)} refl (omega arith) (omega arith)

-- the same addresses
pub skips-at : (r : ℕ) {a b e g : ℕ} (m : List ℕ) → a ≡ b → e ≡ g → Skips r a e m → Skips r b g m
skips-at r m p q s = rw (← p, ← q) s

-- what is compared in two parts
joined : (t s : Bool) (x y z : ℕ) → x ≡ if (eqb y 0) z y → if t x (if s 1 2) ≡ if (eqb (if t y (if s 1 2)) 0) z (if t y (if s 1 2))
unfolding if
joined true s x y z e = e
joined false true x y z e = refl
joined false false x y z e = refl

compared-split : (i j f g : ℕ) (m : List ℕ) → compared (i + j) f g m ≡ if (eqb (compared i f g m) 0) (compared j (f + i) (g + i) m) (compared i f g m)
unfolding compared if
compared-split zero j f g m = same-counts m (none j) (past f) (past g) ∙ sym chosen
  where
    none : (j : ℕ) → 0 + j ≡ j
    none j = omega arith

    past : (i : ℕ) → i ≡ i + 0
    past i = omega arith

    chosen : if (eqb 0 0) (compared j (f + 0) (g + 0) m) 0 ≡ compared j (f + 0) (g + 0) m
    chosen = refl
compared-split (suc i) j f g m =
    same-counts m {n = suc i + j} {f = f} {g = g} (more i j) refl refl
    ∙ joined (eqb (char_in m f) (char_in m g)) (ltb (char_in m f) (char_in m g)) (compared (i + j) (suc f) (suc g) m) (compared i (suc f) (suc g) m) (compared j (f + suc i) (g + suc i) m)
    (compared-split i j (suc f) (suc g) m
    ∙ ap (λ (x : ℕ). if (eqb (compared i (suc f) (suc g) m) 0) x (compared i (suc f) (suc g) m)) (same-counts m {n = j} refl (past f i) (past g i)))
  where
    more : (i j : ℕ) → suc i + j ≡ suc (i + j)
    more i j = omega arith

    past : (a i : ℕ) → suc a + i ≡ a + suc i
    past a i = omega arith

-- h characters decide
pub order-first : (n h a e : ℕ) (m : List ℕ) → h ≤ n → (compared h a e m ≡ 0 → ⊥) → compared n a e m ≡ compared h a e m
unfolding if
order-first n h a e m l k =
    same-counts m {n = n} {n' = h + (n - h)} {f = a} {g = e} (omega arith) refl refl
    ∙ compared-split h (n - h) a e m
    ∙ rw (ne_eqb (compared h a e m) 0 k)

-- h equal characters, then w equal words, then the rest
pub order-rest : (n h w a e : ℕ) (m : List ℕ) → h + 4 * w ≤ n → compared h a e m ≡ 0 → Skips w (a + h) (e + h) m → compared n a e m ≡ compared (n - (h + 4 * w)) (a + (h + 4 * w)) (e + (h + 4 * w)) m
unfolding if
order-rest n h w a e m l z s =
    same-counts m {n = n} {n' = h + (4 * w + (n - (h + 4 * w)))} {f = a} {g = e} (omega arith) refl refl
    ∙ compared-split h (4 * w + (n - (h + 4 * w))) a e m
    ∙ rw z (s (n - (h + 4 * w)))
    ∙ same-counts m {n = n - (h + 4 * w)} {n' = n - (h + 4 * w)} {f = a + h + 4 * w} {f' = a + (h + 4 * w)} {g = e + h + 4 * w} {g' = e + (h + 4 * w)} refl (omega arith) (omega arith)
