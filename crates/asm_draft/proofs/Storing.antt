-- Words written one behind the other: one store, two parts, and a list that is written from its front.
-- Assumes nothing.
use Prim.Native.Nat.{ℕ, ◌+◌, ◌<◌, ◌≤◌}
use native.Mathlib.Numerals.{add-one}
use native.Mathlib.Omega.{arith}
use mathlib.Core.Path.{◌≡◌, refl, sym, ap, ◌∙◌}
use mathlib.Core.List.{List, [], ◌∷◌, ◌++◌, append_assoc, append-nil}
use lib.ListN.{drop, length, length-append, length-set, set, take}
use lib.Seq.{drop-drop, drop-set-lt, length-take-le, set_at, take-set-lt, take-suc-set}
use Rattle.language.specs.Image.{zero_first}
use Rattle.asm_draft.specs.Written.{Written}

pub untouched : (old : List ℕ) (w : ℕ) → Written old w [] old w
untouched old w = record { same = refl; past = omega arith; front = sym (append-nil (take w old)); kept = refl }

pub stored : (old : List ℕ) (w x : ℕ) → w < length old → Written old w (x ∷ []) (set old w x) (w + 1)
stored old w x h =
    record {
      same = length-set old w x;
      past = refl;
      front = rw (add-one) (take-suc-set old w x h);
      kept = drop-set-lt (w + 1) old w x (omega arith);
    }

-- what is the same from v on is the same from u on
kept_more : (a b : List ℕ) (v k u : ℕ) → drop v b ≡ drop v a → u ≡ v + k → drop u b ≡ drop u a
kept_more a b v k u e q = rw q (sym (drop-drop k v b) ∙ ap (drop k) e ∙ drop-drop k v a)

pub both : {a b d : List ℕ} {w v u : ℕ} (xs ys : List ℕ) → Written a w xs b v → Written b v ys d u → Written a w (xs ++ ys) d u
both {a} {b} {d} {w} {v} {u} xs ys p q =
    record {
      same = q.same ∙ p.same;
      past = omega (arith, p.past, q.past, length-append xs ys);
      front = q.front ∙ ap (λ (l : List ℕ). l ++ ys) p.front ∙ append_assoc (take w a) xs ys;
      kept = q.kept ∙ kept_more a b v (length ys) u p.kept q.past;
    }

-- the first of some words made 0
pub zeroed : (old new : List ℕ) (w v : ℕ) (ws : List ℕ) → Written old w ws new v → 0 < length ws → v ≤ length old
    → Written old w (zero_first ws) (set new w 0) v
zeroed old new w v [] p h l = absurd (omega arith)
zeroed old new w v (x ∷ xs) p h l =
    record {
      same = length-set new w 0 ∙ p.same;
      past = p.past;
      front =
          take-set-lt v new w 0 (omega (arith, p.past)) ∙ ap (λ (k : List ℕ). set k w 0) p.front
          ∙ set_at (take w old) x xs 0 w (length-take-le w old (omega (arith, p.past)));
      kept = drop-set-lt v new w 0 (omega (arith, p.past)) ∙ p.kept;
    }

-- w words stand, `rest` is to come, and the whole is what is written into `old` from start on
pub record Filling (old : List ℕ) (start : ℕ) (whole out : List ℕ) (w : ℕ) (rest : List ℕ) : Type 0 where
  pub same : length out ≡ length old
  pub count : w + length rest ≡ start + length whole
  pub front : take w out ++ rest ≡ take start old ++ whole
  pub kept : drop w out ≡ drop w old

pub begun : (old : List ℕ) (start : ℕ) (whole : List ℕ) → Filling old start whole old start whole
begun old start whole = record { same = refl; count = refl; front = refl; kept = refl }

pub put-more : (old : List ℕ) (start : ℕ) (whole out : List ℕ) (w : ℕ) (ws rest new : List ℕ) (v : ℕ)
    → Filling old start whole out w (ws ++ rest) → Written out w ws new v → Filling old start whole new v rest
put-more old start whole out w ws rest new v f p =
    record {
      same = p.same ∙ f.same;
      count = omega (arith, p.past, f.count, length-append ws rest);
      front = ap (λ (l : List ℕ). l ++ rest) p.front ∙ append_assoc (take w out) ws rest ∙ f.front;
      kept = p.kept ∙ kept_more old out w (length ws) v f.kept p.past;
    }

pub filled : (old : List ℕ) (start : ℕ) (whole out : List ℕ) (w : ℕ) → Filling old start whole out w [] → Written old start whole out w
filled old start whole out w f =
    record { same = f.same; past = omega (arith, f.count); front = sym (append-nil (take w out)) ∙ f.front; kept = f.kept }

-- what comes next has room
pub room : (old : List ℕ) (start : ℕ) (whole out : List ℕ) (w : ℕ) (ws rest : List ℕ) → Filling old start whole out w (ws ++ rest)
    → start + length whole ≤ length old → w + length ws ≤ length out
room old start whole out w ws rest f h = omega (arith, f.same, f.count, length-append ws rest)
