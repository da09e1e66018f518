-- Laws of exit lists and of the count of IFFs, in the terms of the code.
-- Assumes nothing.
use Prim.Native.Nat.{ℕ, zero, suc, ◌+◌, ◌-◌, ◌*◌, ◌<◌, ◌≤◌}
use mathlib.Core.Path.{◌≡◌, refl, sym, ap, subst, ◌∙◌}
use mathlib.Core.Bool.{Bool, true, false}
use mathlib.Core.List.{List}
use native.Mathlib.Omega.{arith}
use native.Mathlib.Numerals.{add-one}
use lib.Dec.{eqb}
use lib.ListN.{get_or}
use borrow.Author.Tests.{eq-eqb, ne_eqb, lt-ltb, le-ltb}
use Rattle.base.specs.Test.{◌and◌, ◌or◌, if}
use Rattle.base.proofs.Bool.{passed, if_no, if_yes}
use Rattle.ops.specs.Class.{marks, is, class_code, JSR, PPM, ERR, IFF, PRC}
use Rattle.rules.specs.Check.{is_exit, all_exits, exit_list, iffs, is_named, holds, flow_rules, reaches}
use Rattle.rules.specs.Table.{size, class_at, field, value, externals, fresh_count, exit_count, Callee, procedure, external, unnamed, names_procedure, names_external, callee, declared}
use Rattle.rules.proofs.Facts.{in_table}
use Rattle.table_layout.proofs.Belows.{and-true}
use Rattle.shape_core.specs.Counted.{exits_of}
use Rattle.std.specs.Prelude.{Some, None}
use Rattle.shape_core.proofs.Codes.{class-by, decoded, is_code}
use Rattle.bodies.proofs.Places.{class-past}
use Rattle.shape_core.proofs.Tests.{and_no, and_yes, and_none}

-- an exit card by the number of its class
pub exit-code : (t : List ℕ) (q k : ℕ) → k ≡ class_code (class_at t q) → is_exit (class_at t q) ≡ eqb k 13 or eqb k 14
exit-code t q k e = subst (λ (b : Bool). is_exit (class_at t q) ≡ b or eqb k 14) (is_code (class_at t q) (marks PPM) k e)
    (ap (λ (b : Bool). is (class_at t q) (marks PPM) or b) (is_code (class_at t q) (marks ERR) k e))

-- one exit card more
pub exits-next : (t : List ℕ) (p k i : ℕ) → i < k
    → all_exits t (p + i) (k - i) ≡ is_exit (class_at t (p + i)) and all_exits t (p + (i + 1)) (k - (i + 1))
unfolding all_exits
exits-next t p k i h =
    let z : k - i ≡ suc (k - (i + 1)) = omega arith in
    let s : p + (i + 1) ≡ suc (p + i) = omega arith in
    rw (z, s) refl

pub exits-start : (t : List ℕ) (p k : ℕ) → all_exits t p k ≡ all_exits t (p + 0) (k - 0)
exits-start t p k = let z : k - 0 ≡ k = omega arith in let s : p + 0 ≡ p = omega arith in rw (z, s) refl

pub exits-done : (t : List ℕ) (p k i : ℕ) → k ≤ i → all_exits t (p + i) (k - i) ≡ true
unfolding all_exits
exits-done t p k i h = let z : k - i ≡ 0 = omega arith in rw z refl

-- a place whose class is PRC's is in the table
pub prc-inside : (t : List ℕ) (v k : ℕ) → k ≡ class_code (class_at t v) → k ≡ 17 → v < get_or t 0 0
unfolding size decoded if
prc-inside t v k e q =
    let c : class_at t v ≡ marks PRC = class-by (class_at t v) k e ∙ ap decoded q in in_table t v (rw c passed)

chosen-procedure : (a b : Bool) (v : ℕ) → a ≡ true → if a (procedure v) (if b (external v) unnamed) ≡ procedure v
chosen-procedure a b v e = if_yes _ _ _ e

chosen-external : (a b : Bool) (v : ℕ) → a ≡ false → b ≡ true → if a (procedure v) (if b (external v) unnamed) ≡ external v
chosen-external a b v e f = if_no _ _ _ e ∙ if_yes _ _ _ f

chosen_none : (a b : Bool) (v : ℕ) → a ≡ false → b ≡ false → if a (procedure v) (if b (external v) unnamed) ≡ unnamed
chosen_none a b v e f = if_no _ _ _ e ∙ if_no _ _ _ f

-- the callee of the JSR at p, whose operand has the value v
module _ (t : List ℕ) (p v : ℕ) (e : v ≡ get_or t (8 + 8 * p + 3) 0) where
  pub names-place : (k : ℕ) → k ≡ class_code (class_at t v) → get_or t (8 + 8 * p + 1) 0 ≡ 6 → names_procedure t p ≡ eqb k 17
  unfolding names_procedure value field
  names-place k c q =
      and_yes _ _ (eq-eqb _ _ q) ∙ subst (λ (x : ℕ). is (class_at t x) (marks PRC) ≡ eqb k 17) e (is_code (class_at t v) (marks PRC) k c)

  pub other_place : (get_or t (8 + 8 * p + 1) 0 ≡ 6 → ⊥) → names_procedure t p ≡ false
  unfolding names_procedure field
  other_place h = and_no _ _ (ne_eqb _ _ h)

  other-external : (get_or t (8 + 8 * p + 1) 0 ≡ 23 → ⊥) → names_external t p ≡ false
  unfolding names_external field
  other-external h = and_no _ _ (ne_eqb _ _ h)

  pub exits-procedure : (k : ℕ) → k ≡ class_code (class_at t v) → get_or t (8 + 8 * p + 1) 0 ≡ 6 → k ≡ 17
      → Some (get_or t (8 + 8 * v + 3) 0) ≡ exits_of t (callee t p)
  unfolding callee value field
  exits-procedure k c q s =
      sym (ap (exits_of t) (chosen-procedure _ (names_external t p) _ (names-place k c q ∙ eq-eqb _ _ s)) ∙ rw (← e) refl)

  pub exits-no-procedure : (k : ℕ) → k ≡ class_code (class_at t v) → get_or t (8 + 8 * p + 1) 0 ≡ 6 → (k ≡ 17 → ⊥)
      → None ≡ exits_of t (callee t p)
  unfolding callee value field
  exits-no-procedure k c q s =
      sym (ap (exits_of t) (chosen_none (names_procedure t p) (names_external t p) _ (names-place k c q ∙ ne_eqb _ _ s) (other-external (λ z. omega (arith, z, q)))))

  pub exits-no-kind : (get_or t (8 + 8 * p + 1) 0 ≡ 6 → ⊥) → (get_or t (8 + 8 * p + 1) 0 ≡ 23 → ⊥) → None ≡ exits_of t (callee t p)
  unfolding callee value field
  exits-no-kind h g = sym (ap (exits_of t) (chosen_none (names_procedure t p) (names_external t p) _ (other_place h) (other-external g)))

  pub exits-far : (get_or t (8 + 8 * p + 1) 0 ≡ 6 → ⊥) → get_or t 4 0 ≤ v → None ≡ exits_of t (callee t p)
  unfolding callee value field names_external externals
  exits-far h g =
      sym (ap (exits_of t) (chosen_none (names_procedure t p) (names_external t p) _ (other_place h) (and_none _ _ (le-ltb (get_or t (8 + 8 * p + 3) 0) (get_or t 4 0) (omega (arith, e, g))))))

  pub exits-external : (m f : ℕ) → m ≡ get_or t 0 0 → f ≡ get_or t 3 0 → (get_or t (8 + 8 * p + 1) 0 ≡ 6 → ⊥) → get_or t (8 + 8 * p + 1) 0 ≡ 23 → v < get_or t 4 0
      → Some (get_or t (8 + 8 * m + f + v) 0) ≡ exits_of t (callee t p)
  unfolding callee value field names_external externals exit_count size fresh_count
  exits-external m f n g h q l =
      sym (ap (exits_of t) (chosen-external (names_procedure t p) (names_external t p) _ (other_place h) (and_yes _ _ (eq-eqb _ _ q) ∙ lt-ltb (get_or t (8 + 8 * p + 3) 0) (get_or t 4 0) (omega (arith, e, l)))) ∙ rw (← e, ← n, ← g) refl)

count-differs : {A : Type 0} {k : ℕ} → Some k ≡ None → A
count-differs e = let z : ◌≡◌ {A = ℕ} 0 1 = cc in absurd (omega arith)

pub callee-unnamed : (t : List ℕ) (c : Callee) → exits_of t c ≡ None → is_named c ≡ false
callee-unnamed t (procedure q) e = count-differs e
callee-unnamed t (external k) e = count-differs e
callee-unnamed t unnamed e = refl

pub callee_named : (t : List ℕ) (c : Callee) (k : ℕ) → exits_of t c ≡ Some k → (is_named c ≡ true) × (declared t c ≡ k)
unfolding declared
callee_named t (procedure q) k e = (refl, cc)
callee_named t (external j) k e = (refl, cc)
callee_named t unnamed k e = count-differs (sym e)

-- the rules of the JSR at p
module _ (t : List ℕ) (p : ℕ) where
  pub jsr-unnamed : exits_of t (callee t p) ≡ None → false ≡ holds (flow_rules t p JSR)
  jsr-unnamed e = sym (and_no _ _ (callee-unnamed t (callee t p) e))

  module _ (k : ℕ) (e : exits_of t (callee t p) ≡ Some k) where
    pub jsr-unlisted : exit_list t (p + 1) k ≡ false → false ≡ holds (flow_rules t p JSR)
    jsr-unlisted h =
        let n = callee_named t (callee t p) k e in
        let g : exit_list t (suc p) (declared t (callee t p)) ≡ false = rw (n.1, ← add-one p) h in
        sym (and_yes _ _ n.0 ∙ and_no _ _ g)

    pub jsr-listed : exit_list t (p + 1) k ≡ true → reaches t p (p + 1 + k) ≡ holds (flow_rules t p JSR)
    jsr-listed h =
        let n = callee_named t (callee t p) k e in
        let g : exit_list t (suc p) (declared t (callee t p)) ≡ true = rw (n.1, ← add-one p) h in
        let z : p + 1 + k ≡ suc (p + k) = omega arith in
        let r : reaches t p (p + 1 + k) ≡ reaches t p (suc (p + declared t (callee t p))) = rw (z, n.1) refl in
        sym (and_yes _ _ n.0 ∙ and_yes _ _ g ∙ and-true _ ∙ sym r)

-- the IFFs from place p on, of which k are passed
iffs-stop : (t : List ℕ) (q f : ℕ) → is (class_at t q) (marks IFF) ≡ false → iffs t q f ≡ 0
unfolding iffs
iffs-stop t q zero h = refl
iffs-stop t q (suc f) h = if_no _ _ _ h

pub iffs-start : (t : List ℕ) (p n : ℕ) → iffs t p n ≡ 0 + iffs t (p + 0) (n - 0)
iffs-start t p n = let z : n - 0 ≡ n = omega arith in let s : p + 0 ≡ p = omega arith in rw (z, s) (omega arith)

module _ (t : List ℕ) (p n k : ℕ) (inv : iffs t p n ≡ k + iffs t (p + k) (n - k)) where
  pub iffs-next : (c : ℕ) → k < n → c ≡ class_code (class_at t (p + k)) → c ≡ 15 → iffs t p n ≡ (k + 1) + iffs t (p + (k + 1)) (n - (k + 1))
  unfolding iffs
  iffs-next c l e q =
      let z : n - k ≡ suc (n - (k + 1)) = omega arith in
      let s : p + (k + 1) ≡ suc (p + k) = omega arith in
      let i : is (class_at t (p + k)) (marks IFF) ≡ true = is_code (class_at t (p + k)) (marks IFF) c e ∙ eq-eqb _ _ q in
      let r : iffs t (p + k) (n - k) ≡ suc (iffs t (p + (k + 1)) (n - (k + 1))) = rw (z, s) (if_yes _ _ _ i) in
      omega (arith, inv, r)

  pub iffs-other : (c : ℕ) → c ≡ class_code (class_at t (p + k)) → (c ≡ 15 → ⊥) → k ≡ iffs t p n
  iffs-other c e q =
      let r : iffs t (p + k) (n - k) ≡ 0 = iffs-stop t (p + k) (n - k) (is_code (class_at t (p + k)) (marks IFF) c e ∙ ne_eqb _ _ q) in omega (arith, inv, r)

  pub iffs-end : size t ≤ p + k → k ≡ iffs t p n
  iffs-end h =
      let i : is (class_at t (p + k)) (marks IFF) ≡ false = rw (class-past t (p + k) h) refl in
      let r : iffs t (p + k) (n - k) ≡ 0 = iffs-stop t (p + k) (n - k) i in omega (arith, inv, r)
