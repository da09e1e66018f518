-- The words of a text, from a character on, and those of a real number.
-- Assumes nothing.
use Prim.Native.Nat.{ℕ, ◌+◌, ◌<◌, ◌≤◌}
use native.Mathlib.Omega.{arith}
use mathlib.Core.Path.{◌≡◌, refl, ap, subst, ◌∙◌}
use mathlib.Core.List.{List, [], ◌∷◌, ◌++◌}
use lib.ListN.{drop, drop_of_length-le, length, length-drop}
use lib.Seq.{drop-drop, get_or-drop}
use Rattle.base.specs.Lists.{◌at◌}
use Rattle.words.specs.Words.{text_words, word_of}
use Rattle.language.specs.Decimal.{Decimal, decimal_of, real_words, unwritten, written}
use Rattle.asm_draft.specs.Written.{Written}
use Rattle.asm_draft.proofs.Storing.{Filling, both, filled, put-more, room}

text-first : (l : List ℕ) → 0 < length l → text_words l ≡ word_of (l at 0) (l at 1) (l at 2) (l at 3) ∷ text_words (drop 4 l)
unfolding text_words
text-first [] h = absurd (omega arith)
text-first (a ∷ []) h = refl
text-first (a ∷ b ∷ []) h = refl
text-first (a ∷ b ∷ d ∷ []) h = refl
text-first (a ∷ b ∷ d ∷ e ∷ l) h = refl

-- the word of the characters from i on
abbrev pub word_from : List ℕ → ℕ → ℕ
word_from t i = word_of (t at i) (t at (i + 1)) (t at (i + 2)) (t at (i + 3))

text_at : (t : List ℕ) (i : ℕ) → i < length t → text_words (drop i t) ≡ word_from t i ∷ text_words (drop (i + 4) t)
text_at t i h =
    let z : i + 0 ≡ i = omega arith in
    text-first (drop i t) (omega (arith, length-drop i t))
    ∙ rw (get_or-drop i t 0 0, get_or-drop i t 1 0, get_or-drop i t 2 0, get_or-drop i t 3 0, drop-drop 4 i t, z)

pub of-text : {old new : List ℕ} {w v : ℕ} (t q : List ℕ) → t ≡ q → Written old w (text_words t) new v → Written old w (text_words q) new v
of-text t q e p = rw (← e) p

-- the two words of a real number, one behind the other
pair_of : (d : Decimal) (ws : List ℕ) → ws ≡ real_words d → ws at 0 ∷ ws at 1 ∷ [] ≡ real_words d
pair_of (written s n k) ws e = rw e refl
pair_of unwritten ws e = rw e refl

pub two-words : {a b d : List ℕ} {w v u : ℕ} (ws l f : List ℕ) → ws ≡ real_words (decimal_of l) → l ≡ f → Written a w (ws at 0 ∷ []) b v
    → Written b v (ws at 1 ∷ []) d u → Written a w (real_words (decimal_of f)) d u
two-words {a} {b} {d} {w} {v} {u} ws l f e k p q =
    subst (λ (x : List ℕ). Written a w x d u) (pair_of (decimal_of l) ws e ∙ ap (λ (x : List ℕ). real_words (decimal_of x)) k)
    (both (ws at 0 ∷ []) (ws at 1 ∷ []) p q)

-- a text of which i characters stand
pub record Spelling (t old : List ℕ) (start : ℕ) (out : List ℕ) (w i : ℕ) : Type 0 where
  pub i_le : i ≤ length t + 3
  pub enough : start + length (text_words t) ≤ length old
  pub so_far : Filling old start (text_words t) out w (text_words (drop i t))

module _ (t old : List ℕ) (start : ℕ) (out : List ℕ) (w i : ℕ) (v : Spelling t old start out w i) where
  split : i < length t → Filling old start (text_words t) out w ((word_from t i ∷ []) ++ text_words (drop (i + 4) t))
  split h = rw (text_at t i h) at v.so_far

  pub spelling-room : i < length t → w < length out
  spelling-room h =
      omega (arith, room old start (text_words t) out w (word_from t i ∷ []) (text_words (drop (i + 4) t)) (split h) v.enough)

  pub spelling-more : i < length t → (new : List ℕ) (u x : ℕ) → x ≡ word_from t i → Written out w (x ∷ []) new u → Spelling t old start new u (i + 4)
  spelling-more h new u x e p =
      record {
        i_le = omega arith;
        enough = v.enough;
        so_far = put-more old start (text_words t) out w (word_from t i ∷ []) (text_words (drop (i + 4) t)) new u (split h) (rw e at p);
      }

  pub spelling-done : length t ≤ i → Written old start (text_words t) out w
  unfolding text_words
  spelling-done h =
      let d : drop i t ≡ [] = drop_of_length-le t {i = i} h in
      filled old start (text_words t) out w (rw d at v.so_far)
