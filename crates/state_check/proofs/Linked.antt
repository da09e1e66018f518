-- What opening, leaving and cutting calls does to the links of the code's state is what the rules do.
-- Assumes nothing.
use Prim.Native.Nat.{ℕ, suc, ◌+◌, ◌-◌, ◌<◌, ◌≤◌}
use mathlib.Core.Path.{◌≡◌, refl, sym, ap, ◌∙◌}
use mathlib.Core.List.{List, [], ◌∷◌, ◌++◌}
use native.Mathlib.Omega.{arith}
use native.Mathlib.Numerals.{add-one}
use lib.ListN.{length, get_or, set, take}
use lib.Seq.{get_or-take, take-suc, take-suc-set, take-take}
use Rattle.base.specs.Lists.{init}
use Rattle.rules.specs.State.{top_link}
use Rattle.states.specs.Views.{links_of}
use Rattle.states.proofs.Front.{links-front}
use Rattle.state_check.proofs.Chained.{top-link}

-- link i of the k
pub links-at : (k i : ℕ) (l : List ℕ) → k ≤ 256 → i < k → get_or (links_of k l) i 0 ≡ get_or l i 0
links-at k i l h g = rw (links-front k l h) (get_or-take k l i 0 g)

-- none
pub links-none : (l : List ℕ) → links_of 0 l ≡ []
links-none l = links-front 0 l (omega arith)

module _ (k : ℕ) (l : List ℕ) (full : length l ≡ 256) where
  -- JSR: one more
  pub links-push : (j : ℕ) → k < 256 → links_of (k + 1) (set l k j) ≡ links_of k l ++ j ∷ []
  links-push j h =
      links-front (k + 1) (set l k j) (omega arith) ∙ rw (links-front k l (omega arith), add-one k)
      (take-suc-set l k j (omega arith))

  -- EXI: the youngest goes
  pub links-drop : 0 < k → k ≤ 256 → links_of (k - 1) l ≡ init (links_of k l)
  links-drop p h =
      let e : k ≡ suc (k - 1) = omega arith in
      let s : take k l ≡ take (k - 1) l ++ get_or l (k - 1) 0 ∷ [] = ap (λ (m : ℕ). take m l) e ∙ take-suc l (k - 1) 0
      (omega arith) in
      links-front (k - 1) l (omega arith) ∙ sym (rw (links-front k l h, s) (init-snoc (take (k - 1) l) (get_or l (k - 1) 0)))
    where
      init-snoc : (ls : List ℕ) (j : ℕ) → init (ls ++ j ∷ []) ≡ ls
      init-snoc [] j = refl
      init-snoc (i ∷ []) j = refl
      init-snoc (i ∷ m ∷ ls) j = ap (λ (x : List ℕ). i ∷ x) (init-snoc (m ∷ ls) j)

  -- SSS: the v oldest stay
  pub links-cut : (v : ℕ) → v ≤ k → k ≤ 256 → links_of v l ≡ take v (links_of k l)
  links-cut v g h = links-front v l (omega arith) ∙ sym (rw (links-front k l h) (take-take v k l g))

  -- the youngest
  pub links-top : (k ≡ 0 → ⊥) → k ≤ 256 → top_link 0 (links_of k l) ≡ get_or l (k - 1) 0 + 1
  links-top n h = rw (links-front k l h) (top-link l k n (omega arith) ∙ sym (add-one (get_or l (k - 1) 0)))
