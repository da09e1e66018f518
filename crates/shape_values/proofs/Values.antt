-- Laws of the values of a switch's IFFs, in the terms of the code: forward for one value, backward for all.
-- Assumes nothing.
use Rattle.std.proofs.Common.{◌≡◌, ℕ, zero, suc, ◌+◌, ◌-◌, ◌*◌, ◌%◌, ◌<◌, ◌≤◌, Bool, true, false, not, eqb, ◌≢◌, Option, List, length, get_or, set, sym, refl, ap, ◌∙◌, subst, add-one, arith, length-set, get_or-set_other, get_or-set_same, le-ltb, lt-ltb, eq-eqb, ne_eqb}
use Rattle.base.specs.Test.{◌and◌}
use Rattle.rules.specs.Check.{unlike, distinct_iffs, value_known}
use Rattle.rules.specs.Table.{field, value}
use Rattle.shape_core.specs.Counted.{differs_at, fresh_at, Marked}
use Rattle.shape_core.proofs.Tests.{and_no, and_yes, and_none, or_no, or_yes, not-no, not_yes}
use Rattle.shape_values.specs.Claims.{Claims}

-- the claim of an answer is that of an equal one
pub claimed : (b : Bool) {f g : Option Bool} → f ≡ g → Claims f b → Claims g b
claimed b e h = subst (λ (x : Option Bool). Claims x b) e h

-- one IFF, whose kind is j, and whose value is w
module _ (t : List ℕ) (q : ℕ) {j : ℕ} (d : j ≡ get_or t (8 + 8 * q + 1) 0) where
  known-not : (j ≡ 1 → ⊥) → not (value_known t q) ≡ true
  unfolding value_known field
  known-not h = not-no _ (ne_eqb _ _ (λ z. h (d ∙ z)))

  known_is : j ≡ 1 → not (value_known t q) ≡ false
  unfolding value_known field
  known_is h = not_yes _ (eq-eqb _ _ (sym d ∙ h))

  pub differs-unknown : (v : ℕ) → (j ≡ 1 → ⊥) → true ≡ differs_at t v q
  unfolding differs_at
  differs-unknown v h = sym (or_yes _ _ (known-not h))

  pub fresh-unknown : (limit k : ℕ) → (j ≡ 1 → ⊥) → true ≡ fresh_at t limit q k
  unfolding fresh_at
  fresh-unknown limit k h = sym (or_yes _ _ (known-not h))

  module _ {w : ℕ} (e : w ≡ get_or t (8 + 8 * q + 3) 0) where
    pub differs-known : (v : ℕ) → j ≡ 1 → not (eqb w v) ≡ differs_at t v q
    unfolding differs_at value field
    differs-known v h = rw e (sym (or_no _ _ (known_is h)))

    pub fresh-past : (limit k : ℕ) → j ≡ 1 → limit ≤ w → false ≡ fresh_at t limit q k
    unfolding fresh_at value field
    fresh-past limit k h l = sym (or_no _ _ (known_is h) ∙ and_no _ _ (le-ltb _ _ (rw e at l)))

    pub fresh-known : (limit k : ℕ) → j ≡ 1 → w < limit → unlike t w (q + 1) k ≡ fresh_at t limit q k
    unfolding fresh_at value field
    fresh-known limit k h l = rw (add-one q, e) (sym (or_no _ _ (known_is h) ∙ and_yes _ _ (lt-ltb _ _ (rw e at l))))

-- one value, forward
pub unlike-next : (t : List ℕ) (v p k i : ℕ) → i < k → unlike t v (p + i) (k - i) ≡ differs_at t v (p + i) and unlike t v (p + (i + 1)) (k - (i + 1))
unfolding unlike differs_at
unlike-next t v p k i h =
    let z : k - i ≡ suc (k - (i + 1)) = omega arith in
    let s : p + (i + 1) ≡ suc (p + i) = omega arith in
    rw (z, s) refl

pub unlike-start : (t : List ℕ) (v p k : ℕ) → unlike t v p k ≡ unlike t v (p + 0) (k - 0)
unlike-start t v p k = let z : k - 0 ≡ k = omega arith in let s : p + 0 ≡ p = omega arith in rw (z, s) refl

pub unlike-done : (t : List ℕ) (v p k i : ℕ) → k ≤ i → unlike t v (p + i) (k - i) ≡ true
unfolding unlike
unlike-done t v p k i h = let z : k - i ≡ 0 = omega arith in rw z refl

-- marks
pub unlike-more : (t : List ℕ) (v q k : ℕ) → unlike t v q (suc k) ≡ differs_at t v q and unlike t v (q + 1) k
unfolding unlike differs_at
unlike-more t v q k = rw (add-one q) refl

module _ (t ms : List ℕ) (q k : ℕ) (m : Marked t ms (q + 1) k) {j : ℕ} (d : j ≡ get_or t (8 + 8 * q + 1) 0) where
  pub mark-unknown : (j ≡ 1 → ⊥) → Marked t ms q (suc k)
  mark-unknown h =
      record { room = m.room; clear = λ v z. unlike-more t v q k ∙ and_yes _ _ (sym (differs-unknown t q d v h)) ∙ m.clear v z }

  pub mark-known : (i : ℕ) → i ≡ get_or t (8 + 8 * q + 3) 0 % 1024 → i < 1024 → j ≡ 1 → Marked t (set ms i 1) q (suc k)
  mark-known i e g h =
      record {
        room = rw (length-set ms i 1) m.room;
        clear = λ v z.
            let o : v % 1024 ≢ i = other v z in
            unlike-more t v q k ∙ and_yes _ _ (sym (differs-known t q d refl v h) ∙ not-no _ (ne_eqb _ _ (λ w. o (sym (e ∙ ap (λ (x : ℕ). x % 1024) w)))))
            ∙ m.clear v (sym (get_or-set_other ms i (v % 1024) 1 0 o) ∙ z);
      }
    where
      other : (v : ℕ) → get_or (set ms i 1) (v % 1024) 0 ≡ 0 → v % 1024 ≢ i
      other v z w =
          let r : get_or (set ms i 1) i 0 ≡ 1 = get_or-set_same ms i 1 0 (omega (arith, m.room, g)) in
          let n : get_or (set ms i 1) i 0 ≡ 0 = rw w at z in
          omega (arith, r, n)

pub marked_start : (t ms : List ℕ) (q : ℕ) → 1024 ≤ length ms → Marked t ms q 0
unfolding unlike
marked_start t ms q h = record { room = h; clear = λ v z. refl }

-- all values, backward
pub distinct_more : (t : List ℕ) (limit q k : ℕ) → fresh_at t limit q k ≡ true → distinct_iffs t limit (q + 1) k ≡ true
    → distinct_iffs t limit q (suc k) ≡ true
unfolding distinct_iffs fresh_at
distinct_more t limit q k f d = and_yes _ _ f ∙ rw (← add-one q) d

pub distinct-stale : (t : List ℕ) (limit q k : ℕ) → fresh_at t limit q k ≡ false → distinct_iffs t limit q (suc k) ≡ false
unfolding distinct_iffs fresh_at
distinct-stale t limit q k f = and_no _ _ f

-- a part that fails fails the whole
pub distinct-fails : (t : List ℕ) (limit i p k : ℕ) → distinct_iffs t limit (p + i) k ≡ false → distinct_iffs t limit p (i + k) ≡ false
unfolding distinct_iffs
distinct-fails t limit zero p k h = let s : p + 0 ≡ p = omega arith in let z : 0 + k ≡ k = omega arith in rw z (rw s at h)
distinct-fails t limit (suc i) p k h =
    let s : p + suc i ≡ suc p + i = omega arith in
    let z : suc i + k ≡ suc (i + k) = omega arith in
    rw z (and_none _ _ (distinct-fails t limit i (suc p) k (rw s at h)))

-- the loop: of the k IFFs from place p on the last `left` are passed
module _ (t : List ℕ) (limit p k left : ℕ) where
  pub distinct-start : distinct_iffs t limit (p + (k - 0)) 0 ≡ true
  unfolding distinct_iffs
  distinct-start = refl

  pub distinct-front : left < k → fresh_at t limit (p + (k - left - 1)) left ≡ false → false ≡ distinct_iffs t limit p k
  distinct-front h f =
      let z : (k - left - 1) + suc left ≡ k = omega arith in
      sym (subst (λ (x : ℕ). distinct_iffs t limit p x ≡ false) z
      (distinct-fails t limit (k - left - 1) p (suc left) (distinct-stale t limit (p + (k - left - 1)) left f)))

  pub distinct-back : left < k → fresh_at t limit (p + (k - left - 1)) left ≡ true → distinct_iffs t limit (p + (k - left)) left ≡ true
      → distinct_iffs t limit (p + (k - (left + 1))) (left + 1) ≡ true
  distinct-back h f d =
      let e : p + (k - left - 1) ≡ p + (k - (left + 1)) = omega arith in
      let s : p + (k - left) ≡ p + (k - (left + 1)) + 1 = omega arith in
      subst (λ (x : ℕ). distinct_iffs t limit (p + (k - (left + 1))) x ≡ true) (sym (add-one left))
      (distinct_more t limit (p + (k - (left + 1))) left (subst (λ (x : ℕ). fresh_at t limit x left ≡ true) e f)
      (subst (λ (x : ℕ). distinct_iffs t limit x left ≡ true) s d))

  pub distinct-end : k ≤ left → left ≤ k → distinct_iffs t limit (p + (k - left)) left ≡ true → true ≡ distinct_iffs t limit p k
  distinct-end h g d =
      let e : left ≡ k = omega arith in
      let s : p + (k - left) ≡ p = omega arith in
      sym (subst (λ (x : ℕ). distinct_iffs t limit p x ≡ true) e (subst (λ (x : ℕ). distinct_iffs t limit x left ≡ true) s d))

  pub marked-at : (ms : List ℕ) → left < k → Marked t ms (p + (k - left)) left → Marked t ms (p + (k - left - 1) + 1) left
  marked-at ms h m =
      let s : p + (k - left) ≡ p + (k - left - 1) + 1 = omega arith in subst (λ (x : ℕ). Marked t ms x left) s m

  pub marked-back : (ms : List ℕ) → left < k → Marked t ms (p + (k - left - 1)) (suc left) → Marked t ms (p + (k - (left + 1))) (left + 1)
  marked-back ms h m =
      let e : p + (k - left - 1) ≡ p + (k - (left + 1)) = omega arith in
      subst (λ (x : ℕ). Marked t ms (p + (k - (left + 1))) x) (sym (add-one left)) (subst (λ (x : ℕ). Marked t ms x (suc left)) e m)
