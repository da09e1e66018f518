-- Values that rise along some order of the IFFs are distinct: marks of those that were seen, and the least value that the next may have. Two
-- known equal values are not.
-- Assumes nothing.
use Prim.Native.Nat.{ℕ, zero, suc, ◌+◌, ◌-◌, ◌*◌, ◌<◌, ◌≤◌}
use mathlib.Core.Path.{◌≡◌, refl, sym, ap, subst, ◌∙◌}
use mathlib.Core.Bool.{Bool, true, false}
use mathlib.Core.List.{List}
use mathlib.Core.Logic.{◌⊎◌, ⊎_elim, inl, inr, ◌≢◌}
use native.Mathlib.Omega.{arith}
use lib.ListN.{length, get_or, set, replicate, length-set, get_or-replicate, length-replicate}
use lib.Seq.{get_or-set_other}
use borrow.Author.Tests.{eq-eqb, ne_eqb}
use Rattle.rules.specs.Check.{unlike, distinct_iffs}
use Rattle.shape_core.specs.Counted.{differs_at, fresh_at}
use Rattle.shape_core.proofs.Tests.{and_no, and_none, and_yes, not-no, not_yes}
use Rattle.shape_distinct.specs.Orders.{Seen}
use Rattle.shape_values.proofs.Values.{differs-known, distinct_more, distinct-stale, distinct-fails, fresh-known, fresh-past, unlike-more}

-- the kind and the value of IFF i from place p on
abbrev pub kind_at : List ℕ → ℕ → ℕ → ℕ
kind_at t p i = get_or t (8 + 8 * (p + i) + 1) 0

abbrev pub value_at : List ℕ → ℕ → ℕ → ℕ
value_at t p i = get_or t (8 + 8 * (p + i) + 3) 0

abbrev Marks : List ℕ → ℕ → Type 0
Marks seen i = (i < 1024) × (get_or seen i 0 ≡ 0 → ⊥)

order : (x y : ℕ) → (x < y) ⊎ ((x ≡ y) ⊎ (y < x))
order zero zero = inr (inl refl)
order zero (suc y) = inl (omega arith)
order (suc x) zero = inr (inr (omega arith))
order (suc x) (suc y) =
    ⊎_elim (λ (b : x < y). inl (omega arith)) (λ r. inr (⊎_elim (λ e. inl (ap suc e)) (λ (b : y < x). inr (omega arith)) r)) (order x y)

-- the IFFs that are marked as seen have known values below the limit and below `low`, no two the same
pub record Apart (t seen : List ℕ) (limit p low : ℕ) : Type 0 where
  pub room : length seen ≡ 1024
  pub known : (i : ℕ) → Marks seen i → kind_at t p i ≡ 1
  pub less : (i : ℕ) → Marks seen i → value_at t p i < low
  pub inside : (i : ℕ) → Marks seen i → value_at t p i < limit
  pub apart : (i j : ℕ) → Marks seen i → Marks seen j → value_at t p i ≡ value_at t p j → i ≡ j

pub apart-start : (t seen : List ℕ) (limit p low : ℕ) → seen ≡ replicate 1024 0 → Apart t seen limit p low
apart-start t seen limit p low e = record {
  room = rw e (length-replicate {A = ℕ} 1024 0);
  known = λ i m. absurd (none i m);
  less = λ i m. absurd (none i m);
  inside = λ i m. absurd (none i m);
  apart = λ i j m n w. absurd (none i m);
}
  where
    none : (i : ℕ) → Marks seen i → ⊥
    none i m = m.1 (ap (λ (l : List ℕ). get_or l i 0) e ∙ get_or-replicate 1024 i 0 0 m.0)

module _ (t seen : List ℕ) (limit p low q : ℕ) (a : Apart t seen limit p low) (h : q < 1024) (kind : kind_at t p q ≡ 1) {v : ℕ} (e : v ≡ value_at t p q)
    (least : low ≤ v) (most : v < limit) where
  -- what is marked then is q, or was before
  was : (i : ℕ) → Marks (set seen q 1) i → (i ≡ q) ⊎ Marks seen i
  was i m = by (order i q)
    where
      by : (i < q) ⊎ ((i ≡ q) ⊎ (q < i)) → (i ≡ q) ⊎ Marks seen i
      by (inl l) = inr (m.0, λ z. m.1 (get_or-set_other seen q i 1 0 (λ (e : i ≡ q). absurd (omega arith)) ∙ z))
      by (inr (inl e)) = inl e
      by (inr (inr l)) = inr (m.0, λ z. m.1 (get_or-set_other seen q i 1 0 (λ (e : i ≡ q). absurd (omega arith)) ∙ z))

  pub apart_more : Apart t (set seen q 1) limit p (v + 1)
  apart_more = record {
    room = length-set seen q 1 ∙ a.room;
    known = λ i m. ⊎_elim (λ w. subst (λ (x : ℕ). kind_at t p x ≡ 1) (sym w) kind) (λ n. a.known i n) (was i m);
    less = λ i m. ⊎_elim (λ w. subst (λ (x : ℕ). value_at t p x < v + 1) (sym w) (omega arith)) (λ n. let l = a.less i n in omega arith) (was i m);
    inside = λ i m. ⊎_elim (λ w. subst (λ (x : ℕ). value_at t p x < limit) (sym w) (omega arith)) (λ n. a.inside i n) (was i m);
    apart = λ i j m n w. both i j w (was i m) (was j n);
  }
    where
      both : (i j : ℕ) → value_at t p i ≡ value_at t p j → (i ≡ q) ⊎ Marks seen i → (j ≡ q) ⊎ Marks seen j → i ≡ j
      both i j w (inl f) (inl g) = f ∙ sym g
      both i j w (inl f) (inr n) = let l = a.less j n in let s : value_at t p q ≡ value_at t p j = subst (λ (x : ℕ). value_at t p x ≡ value_at t p j) f w in absurd (omega arith)
      both i j w (inr m) (inl g) = let l = a.less i m in let s : value_at t p i ≡ value_at t p q = subst (λ (x : ℕ). value_at t p i ≡ value_at t p x) g w in absurd (omega arith)
      both i j w (inr m) (inr n) = a.apart i j m n w

-- all of the k are marked
module _ (t seen : List ℕ) (limit p low k : ℕ) (a : Apart t seen limit p low) (few : k ≤ 1024) (all : (i : ℕ) → i < k → get_or seen i 0 ≡ 0 → ⊥) where
  unlike-all : (i j m : ℕ) → i < j → j + m ≡ k → unlike t (value_at t p i) (p + j) m ≡ true
  unfolding unlike
  unlike-all i j zero h e = refl
  unlike-all i j (suc m) h e =
      let mj : Marks seen j = (omega arith, all j (omega arith)) in
      let mi : Marks seen i = (omega arith, all i (omega arith)) in
      let n : value_at t p j ≡ value_at t p i → ⊥ = λ w. absurd (let g = a.apart j i mj mi w in omega arith) in
      let s : p + (j + 1) ≡ p + j + 1 = omega arith in
      unlike-more t (value_at t p i) (p + j) m ∙ and_yes _ _ (sym (differs-known t (p + j) refl refl (value_at t p i) (a.known j mj)) ∙ not-no _ (ne_eqb _ _ n))
      ∙ subst (λ (x : ℕ). unlike t (value_at t p i) x m ≡ true) s (unlike-all i (j + 1) m (omega arith) (omega arith))

  distinct_from : (m i : ℕ) → i + m ≡ k → distinct_iffs t limit (p + i) m ≡ true
  unfolding distinct_iffs
  distinct_from zero i e = refl
  distinct_from (suc m) i e =
      let mi : Marks seen i = (omega arith, all i (omega arith)) in
      let s : p + (i + 1) ≡ p + i + 1 = omega arith in
      distinct_more t limit (p + i) m
      (sym (fresh-known t (p + i) refl refl limit m (a.known i mi) (a.inside i mi))
      ∙ subst (λ (x : ℕ). unlike t (value_at t p i) x m ≡ true) s (unlike-all i (i + 1) m (omega arith) (omega arith)))
      (subst (λ (x : ℕ). distinct_iffs t limit x m ≡ true) s (distinct_from m (i + 1) (omega arith)))

  pub all_apart : distinct_iffs t limit p k ≡ true
  all_apart = let s : p + 0 ≡ p = omega arith in subst (λ (x : ℕ). distinct_iffs t limit x k ≡ true) s (distinct_from k 0 (omega arith))

-- all marks are set, by what an answer claims
pub all_set : (r : Bool) (seen : List ℕ) (k : ℕ) → r ≡ true → Seen r seen k → (i : ℕ) → i < k → get_or seen i 0 ≡ 0 → ⊥
all_set r seen k e s = subst (λ (x : Bool). Seen x seen k) e s

-- an IFF that is not fresh fails the list
pub stale : (t : List ℕ) (limit p k i : ℕ) → i < k → fresh_at t limit (p + i) (k - i - 1) ≡ false → distinct_iffs t limit p k ≡ false
stale t limit p k i h f =
    let z : i + suc (k - i - 1) ≡ k = omega arith in
    subst (λ (x : ℕ). distinct_iffs t limit p x ≡ false) z (distinct-fails t limit i p (suc (k - i - 1)) (distinct-stale t limit (p + i) (k - i - 1) f))

-- a value that is not below the limit
pub past : (t : List ℕ) (limit p k i : ℕ) → i < k → kind_at t p i ≡ 1 → {v : ℕ} → v ≡ value_at t p i → limit ≤ v → distinct_iffs t limit p k ≡ false
past t limit p k i h kind e l = stale t limit p k i h (sym (fresh-past t (p + i) refl e limit (k - i - 1) kind l))

-- one of the m IFFs from q on, the d-th, has the value v
unlike-one : (t : List ℕ) (v q d m : ℕ) → differs_at t v (q + d) ≡ false → unlike t v q (d + suc m) ≡ false
unlike-one t v q zero m f =
    let s : q + 0 ≡ q = omega arith in
    let z : 0 + suc m ≡ suc m = omega arith in
    rw z (unlike-more t v q m ∙ and_no _ _ (rw s at f))
unlike-one t v q (suc d) m f =
    let s : q + suc d ≡ q + 1 + d = omega arith in
    let z : suc d + suc m ≡ suc (d + suc m) = omega arith in
    rw z (unlike-more t v q (d + suc m) ∙ and_none _ _ (unlike-one t v (q + 1) d m (rw s at f)))

-- two known equal values, i before j
twice : (t : List ℕ) (limit p k i j : ℕ) → i < j → j < k → kind_at t p i ≡ 1 → kind_at t p j ≡ 1 → value_at t p j ≡ value_at t p i → distinct_iffs t limit p k ≡ false
twice t limit p k i j h g ki kj e = by (order (value_at t p i) limit)
  where
    fresh : value_at t p i < limit → distinct_iffs t limit p k ≡ false
    fresh l =
        let s : p + j ≡ p + i + 1 + (j - i - 1) = omega arith in
        let z : (j - i - 1) + suc (k - j - 1) ≡ k - i - 1 = omega arith in
        let d : differs_at t (value_at t p i) (p + j) ≡ false = sym (differs-known t (p + j) refl refl (value_at t p i) kj) ∙ not_yes _ (eq-eqb _ _ e) in
        stale t limit p k i (omega arith)
        (sym (fresh-known t (p + i) refl refl limit (k - i - 1) ki l)
        ∙ subst (λ (x : ℕ). unlike t (value_at t p i) (p + i + 1) x ≡ false) z
        (unlike-one t (value_at t p i) (p + i + 1) (j - i - 1) (k - j - 1) (subst (λ (x : ℕ). differs_at t (value_at t p i) x ≡ false) s d)))

    by : (value_at t p i < limit) ⊎ ((value_at t p i ≡ limit) ⊎ (limit < value_at t p i)) → distinct_iffs t limit p k ≡ false
    by (inl l) = fresh l
    by (inr (inl l)) = past t limit p k i (omega arith) ki refl (omega arith)
    by (inr (inr l)) = past t limit p k i (omega arith) ki refl (omega arith)

-- two known equal values
pub not-distinct : (t : List ℕ) (limit p k i j : ℕ) → i < k → j < k → i ≢ j → kind_at t p i ≡ 1 → kind_at t p j ≡ 1 → value_at t p i ≡ value_at t p j
    → distinct_iffs t limit p k ≡ false
not-distinct t limit p k i j hi hj n ki kj e = by (order i j)
  where
    by : (i < j) ⊎ ((i ≡ j) ⊎ (j < i)) → distinct_iffs t limit p k ≡ false
    by (inl l) = twice t limit p k i j l hj ki kj (sym e)
    by (inr (inl w)) = absurd (n w)
    by (inr (inr l)) = twice t limit p k j i l hi kj ki e
