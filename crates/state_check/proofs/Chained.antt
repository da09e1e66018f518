-- The chain of links in the terms of the code, which keeps what the link just beneath opened.
-- Assumes nothing.
use Prim.Native.Nat.{ℕ, zero, suc, ◌+◌, ◌-◌, ◌<◌, ◌≤◌}
use mathlib.Core.Path.{◌≡◌, refl, sym, ap, ◌∙◌}
use mathlib.Core.Bool.{Bool, true, false}
use mathlib.Core.List.{List, [], ◌∷◌}
use mathlib.Core.Logic.{◌⊎◌, inl, inr}
use native.Mathlib.Omega.{arith}
use native.Mathlib.Numerals.{add-one}
use lib.Dec.{eqb, ltb}
use lib.ListN.{length, get_or, take, drop, drop_of_length-le}
use lib.Seq.{drop-cons, take-suc}
use borrow.Author.Tests.{lt-ltb, eq-eqb, ne_eqb}
use Rattle.base.specs.Test.{◌and◌}
use Rattle.rules.specs.State.{chain, held, opened, top_link}
use Rattle.rules.specs.Table.{body_at, calls}
use Rattle.rules.proofs.Links.{top_link-snoc}

-- code of body d has just beneath it a link that opened o
abbrev pub held_by : ℕ → ℕ → Bool
held_by zero o = true
held_by (suc q) o = eqb o (suc q)

-- the chain above a link that opened o
abbrev pub chain_over : List ℕ → ℕ → List ℕ → Bool
chain_over t o [] = true
chain_over t o (j ∷ ls) = ltb 0 (calls t j) and held_by (body_at t j) o and chain_over t (calls t j) ls

pub held_by_lem : (t : List ℕ) (d top : ℕ) → held t d top ≡ held_by d (opened t top)
held_by_lem t zero top = refl
held_by_lem t (suc q) top = refl

pub chain-over : (t : List ℕ) (b : ℕ) (ls : List ℕ) → chain t b ls ≡ chain_over t (opened t b) ls
chain-over t b [] = refl
chain-over t b (j ∷ ls) = rw (held_by_lem t (body_at t j) b, chain-over t (suc j) ls) refl

pub chain-done : (t : List ℕ) (o k i : ℕ) (l : List ℕ) → length (take k l) ≤ i → chain_over t o (drop i (take k l)) ≡ true
chain-done t o k i l h = rw (drop_of_length-le (take k l) {i = i} h) refl

unheld : (d o : ℕ) → (d ≡ 0 → ⊥) → (o ≡ d → ⊥) → held_by d o ≡ false
unheld zero o n m = absurd (n refl)
unheld (suc q) o n m = ne_eqb o (suc q) m

is_held : (d o : ℕ) → (d ≡ 0) ⊎ (o ≡ d) → held_by d o ≡ true
is_held zero o w = refl
is_held (suc q) o (inl z) = absurd (omega arith)
is_held (suc q) o (inr e) = eq-eqb o (suc q) e

neither : (a r : Bool) → a and false and r ≡ false
unfolding ◌and◌
neither true r = refl
neither false r = refl

positive : (m : ℕ) → (m ≡ 0 → ⊥) → 0 < m
positive zero q = absurd (q refl)
positive (suc m) q = omega arith

-- what the loop does with the link x at i of k links of the array l, above a link that opened o; c is what x opens
module _ (t : List ℕ) (o k i x c : ℕ) (l : List ℕ) (g : i < length (take k l)) (e : x ≡ get_or (take k l) i 0) (f : c ≡ calls t x) where
  chain_next : chain_over t o (drop i (take k l)) ≡ ltb 0 c and held_by (body_at t x) o and chain_over t c (drop (i + 1) (take k l))
  chain_next =
      rw (drop-cons (take k l) i 0 g, ← e, f, add-one i) refl

  pub chain-uncalled : c ≡ 0 → chain_over t o (drop i (take k l)) ≡ false
  unfolding ◌and◌
  chain-uncalled z = chain_next ∙ rw z refl

  pub chain-unheld : (d : ℕ) → d ≡ body_at t x → (d ≡ 0 → ⊥) → (o ≡ d → ⊥) → chain_over t o (drop i (take k l)) ≡ false
  chain-unheld d b n m = chain_next ∙ rw (← b, unheld d o n m) (neither _ _)

  pub chain-on : (c ≡ 0 → ⊥) → (d : ℕ) → d ≡ body_at t x → (d ≡ 0) ⊎ (o ≡ d) → chain_over t o
      (drop i (take k l)) ≡ chain_over t c (drop (i + 1) (take k l))
  unfolding ◌and◌
  chain-on n d b w = chain_next ∙ rw (lt-ltb 0 c (positive c n), ← b, is_held d o w) refl

-- the youngest of k links of the array l
pub top-none : (l : List ℕ) (k : ℕ) → k ≡ 0 → top_link 0 (take k l) ≡ 0
top-none l k e = rw e refl

pub top-link : (l : List ℕ) (k : ℕ) → (k ≡ 0 → ⊥) → k ≤ length l → top_link 0 (take k l) ≡ suc (get_or l (k - 1) 0)
top-link l k n h =
    let p : 0 < k = positive k n in
    let e : k ≡ suc (k - 1) = omega arith in
    ap (λ (m : ℕ). top_link 0 (take m l)) e ∙ ap (top_link 0) (take-suc l (k - 1) 0 (omega arith))
    ∙ top_link-snoc 0 (take (k - 1) l) (get_or l (k - 1) 0)

-- code of body d above no link, and above the link x, which opens c
module _ (t l : List ℕ) (k d : ℕ) where
  pub covered-outside : d ≡ 0 → true ≡ held t d (top_link 0 (take k l))
  covered-outside e = rw e refl

  pub covered-bare : (d ≡ 0 → ⊥) → k ≡ 0 → false ≡ held t d (top_link 0 (take k l))
  covered-bare n e = sym (held_by_lem t d _ ∙ rw (top-none l k e) (unheld d 0 n (λ z. n (sym z))))

  pub covered-by : (d ≡ 0 → ⊥) → (k ≡ 0 → ⊥) → k ≤ length l → (c : ℕ) → c ≡ calls t (get_or l (k - 1) 0) → eqb c d ≡ held t d
      (top_link 0 (take k l))
  covered-by n m h c e = sym (held_by_lem t d _ ∙ rw (top-link l k m h, ← e) (go d n))
    where
      go : (d : ℕ) → (d ≡ 0 → ⊥) → held_by d c ≡ eqb c d
      go zero z = absurd (z refl)
      go (suc q) z = refl
