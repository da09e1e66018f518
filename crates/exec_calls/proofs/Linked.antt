-- The lent links: what one more, one less and a cut do to them is what the rules do.
-- Assumes nothing.
use Prim.Native.Nat.{ℕ, zero, suc, ◌+◌, ◌-◌, ◌<◌, ◌≤◌}
use mathlib.Core.Path.{◌≡◌, refl, sym, ap, ◌∙◌}
use mathlib.Core.List.{List, [], ◌∷◌, ◌++◌}
use native.Mathlib.Omega.{arith}
use native.Mathlib.Numerals.{add-one}
use lib.ListN.{length, length-set, set, take}
use lib.Seq.{get_or-set_same, length-take-le, take-set-le, take-suc, take-suc-set, take-take}
use Rattle.base.specs.Lists.{◌at◌, init}
use Rattle.rules.specs.State.{top_link}
use Rattle.rules.proofs.Links.{top_link-snoc}
use Rattle.exec_core.specs.Seen.{open_links}
use Rattle.exec_calls.specs.Stands.{Few}

-- a new count
open-links-set : (l : List ℕ) (v : ℕ) → length l ≡ 257 → v ≤ 256 → open_links (set l 256 v) ≡ take v l
open-links-set l v f h =
    ap (λ (k : ℕ). take k (set l 256 v)) (get_or-set_same l 256 v 0 (omega arith)) ∙ take-set-le v l 256 v h

init-snoc : (ls : List ℕ) (j : ℕ) → init (ls ++ j ∷ []) ≡ ls
init-snoc [] j = refl
init-snoc (i ∷ []) j = refl
init-snoc (i ∷ m ∷ ls) j = ap (λ (x : List ℕ). i ∷ x) (init-snoc (m ∷ ls) j)

module _ (l : List ℕ) (y : Few l) where
  pub links-count : length (open_links l) ≡ l at 256
  links-count = length-take-le (l at 256) l (omega (arith, y.count, y.room))

  -- JSR: one more
  pub links-push : (k j : ℕ) → k ≡ l at 256 → k < 256 → open_links (set (set l k j) 256 (k + 1)) ≡ open_links l ++ j ∷ []
  links-push k j e h =
      open-links-set (set l k j) (k + 1) (length-set l k j ∙ y.room) (omega arith)
      ∙ ap (λ (i : ℕ). take i (set l k j)) (add-one k) ∙ take-suc-set l k j (omega (arith, y.room))
      ∙ ap (λ (i : ℕ). take i l ++ j ∷ []) e

  -- SSS: the v oldest stay
  pub links-cut : (v : ℕ) → v ≤ l at 256 → open_links (set l 256 v) ≡ take v (open_links l)
  links-cut v h = open-links-set l v y.room (omega (arith, y.count)) ∙ sym (take-take v (l at 256) l h)

  -- some are open
  module _ (some : 0 < l at 256) where
    split : open_links l ≡ take (l at 256 - 1) l ++ l at (l at 256 - 1) ∷ []
    split =
        let e : l at 256 ≡ suc (l at 256 - 1) = omega arith in
        ap (λ (m : ℕ). take m l) e ∙ take-suc l (l at 256 - 1) 0 (omega (arith, y.room, y.count))

    -- EXI: the youngest goes
    pub links-drop : (k : ℕ) → k ≡ l at 256 - 1 → open_links (set l 256 k) ≡ init (open_links l)
    links-drop k e =
        open-links-set l k y.room (omega (arith, y.count)) ∙ ap (λ (i : ℕ). take i l) e
        ∙ sym (ap init split ∙ init-snoc (take (l at 256 - 1) l) (l at (l at 256 - 1)))

    -- the youngest
    pub links-top : top_link 0 (open_links l) ≡ suc (l at (l at 256 - 1))
    links-top = ap (top_link 0) split ∙ top_link-snoc 0 (take (l at 256 - 1) l) (l at (l at 256 - 1))

-- where a link is youngest, some are open
pub links-some : (l : List ℕ) (j : ℕ) → top_link 0 (open_links l) ≡ suc j → 0 < l at 256
links-some l j e = go (l at 256) e
  where
    go : (k : ℕ) → top_link 0 (take k l) ≡ suc j → 0 < k
    go zero h = absurd (omega arith)
    go (suc k) h = omega arith
