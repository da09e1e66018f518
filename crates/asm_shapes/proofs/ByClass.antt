-- The rules of a class by its number, in the terms of the code: JSR, EXI, the classes of shape rules alone, and the rules that are left
-- out where operands are not given.
-- Assumes nothing.
use Prim.Native.Nat.{ℕ, zero, suc, ◌+◌, ◌*◌, ◌≤◌, ◌<◌}
use mathlib.Core.Path.{◌≡◌, refl, sym, ap, ◌∙◌}
use mathlib.Core.Bool.{Bool, true, false}
use mathlib.Core.List.{List}
use native.Mathlib.Omega.{arith}
use native.Mathlib.Numerals.{add-one}
use lib.Dec.{eqb, ltb}
use lib.ListN.{get_or}
use borrow.Author.Tests.{eq-eqb, ne_eqb, lt-ltb, le-ltb}
use Rattle.base.specs.Test.{Ok, ◌and◌, ◌or◌, if}
use Rattle.base.proofs.Bool.{and_l, and_r, test-true, true-ok, if_no, if_yes}
use Rattle.ops.specs.Class.{Class, class_code, executes, marks, none, goes, forks, BRN, JMG, BRI, BSW, ENT, RTN, JSR, EXI, SSS, ERB, CHK, PPM, ERR, IFF, ESW, PRC, ENP}
use Rattle.ops.specs.Format.{no_kind}
use Rattle.rules.specs.Check.{all_exits, below_iff, class_rules, exit_list, exit_number_ok, faults_in, flow_rules, holds, is_exit, reaches, value_known}
use Rattle.rules.specs.Number.{bad_list, bad_operand}
use Rattle.rules.specs.Table.{body_at, callee, class_at, declared, field, names_procedure, size, value}
use Rattle.bodies.proofs.Places.{class-past}
use Rattle.shape_core.specs.Counted.{exits_of}
use Rattle.std.specs.Prelude.{Some, None}
use Rattle.shape_core.proofs.Codes.{code_same, is_code}
use Rattle.shape_core.proofs.Lists.{callee_named, callee-unnamed, names-place, other_place}
use Rattle.shape_core.proofs.Tests.{and_no, and_none, and_yes, not-no, not_yes, or_no, or_yes}
use Rattle.language.specs.Fault.{count_known, list_rules, loose_class}
use Rattle.language.specs.Text.{Parsed, parsed}
use Rattle.asm_shapes.proofs.Smallest.{all_shape, operand-least, pair-first, pair-none, pair-second, shape-faults}

-- the k exits of the JSR at p
module _ (t : List ℕ) (p k : ℕ) where
  pub list-broken : exit_list t (p + 1) k ≡ false → 6 ≡ faults_in (list_rules t p (parsed k))
  list-broken e = pair-first bad_list _ _ (rw (← add-one p) e)

  module _ (e : exit_list t (p + 1) k ≡ true) where
    past : reaches t p (p + 1 + k) ≡ reaches t p (suc (p + k))
    past = let z : p + 1 + k ≡ suc (p + k) = omega arith in rw z refl

    pub list-stuck : reaches t p (p + 1 + k) ≡ false → 7 ≡ faults_in (list_rules t p (parsed k))
    list-stuck r = pair-second bad_list _ _ (rw (← add-one p) e) (sym past ∙ r)

    pub list_lawful : reaches t p (p + 1 + k) ≡ true → 0 ≡ faults_in (list_rules t p (parsed k))
    list_lawful r = pair-none bad_list _ _ (rw (← add-one p) e) (sym past ∙ r)

-- no list is longer than the table
exits-long : (t : List ℕ) (k p : ℕ) → size t ≤ p + k → all_exits t p (suc k) ≡ false
unfolding all_exits ◌or◌
exits-long t zero p h =
    let e : class_at t p ≡ none = class-past t p (omega arith) in and_no _ _ (ap is_exit e)
exits-long t (suc k) p h = and_none _ _ (exits-long t k (suc p) (omega arith))

pub list-long : (t : List ℕ) (p k : ℕ) → size t < k → 6 ≡ faults_in (list_rules t p (parsed k))
unfolding exit_list
list-long t p zero h = absurd (omega arith)
list-long t p (suc k) h = pair-first bad_list _ _ (and_no _ _ (exits-long t k (suc p) (omega arith)))

-- the JSR at p
module _ (t : List ℕ) (p : ℕ) where
  pub jsr-unnamed : exits_of t (callee t p) ≡ None → 4 ≡ faults_in (flow_rules t p JSR)
  jsr-unnamed e =
      sym (if_no _ _ _ (callee-unnamed t (callee t p) e) ∙ operand-least (list_rules t p (parsed (declared t (callee t p)))))

  pub jsr-named : (k : ℕ) → exits_of t (callee t p) ≡ Some k → faults_in (list_rules t p (parsed k)) ≡ faults_in (flow_rules t p JSR)
  jsr-named k e =
      let n = callee_named t (callee t p) k e in
      ap (λ (x : ℕ). faults_in (list_rules t p (parsed x))) (sym n.1) ∙ sym (if_yes _ _ _ n.0)

-- the first of two tests fails where the second passes
first-fails : (x y : Bool) → y ≡ true → x and y and true ≡ false → x ≡ false
unfolding ◌and◌
first-fails true y q r = sym (and_yes _ _ q) ∙ r
first-fails false y q r = refl

-- the EXI at p, whose body is b
module _ (t : List ℕ) (p : ℕ) where
  pub exi-lawful : holds (flow_rules t p EXI) ≡ true → 0 ≡ faults_in (flow_rules t p EXI)
  exi-lawful h =
      let o = true-ok _ h in pair-none bad_operand _ _ (test-true _ (and_l _ _ o)) (test-true _ (and_l _ _ (and_r _ _ o)))

  module _ (b : ℕ) (e : b ≡ body_at t p) where
    pub exi-numbered : holds (flow_rules t p EXI) ≡ false → (b ≡ 0 → ⊥) → 4 ≡ faults_in (flow_rules t p EXI)
    exi-numbered h z =
        let g : ltb 0 (body_at t p) ≡ true = lt-ltb 0 (body_at t p) (omega (arith, e, z)) in
        pair-first bad_operand _ _ (first-fails _ _ g h)

    module _ (z : b ≡ 0) where
      outer : exit_number_ok t p (body_at t p) ≡ (eqb (get_or t (8 + 8 * p + 1) 0) no_kind or ltb 0 (get_or t (8 + 8 * p + 3) 0))
      unfolding exit_number_ok value field
      outer = ap (exit_number_ok t p) (sym e ∙ z)

      shut : ltb 0 (body_at t p) ≡ false
      shut = le-ltb 0 (body_at t p) (omega (arith, e, z))

      pub exi-left-out : get_or t (8 + 8 * p + 1) 0 ≡ 0 → 7 ≡ faults_in (flow_rules t p EXI)
      exi-left-out k = pair-second bad_operand _ _ (outer ∙ or_yes _ _ (eq-eqb _ _ k)) shut

      module _ (k : get_or t (8 + 8 * p + 1) 0 ≡ 0 → ⊥) where
        pub exi-outer : 0 < get_or t (8 + 8 * p + 3) 0 → 7 ≡ faults_in (flow_rules t p EXI)
        exi-outer v = pair-second bad_operand _ _ (outer ∙ or_no _ _ (ne_eqb _ _ k) ∙ lt-ltb _ _ v) shut

        pub exi-zero : get_or t (8 + 8 * p + 3) 0 ≤ 0 → 4 ≡ faults_in (flow_rules t p EXI)
        exi-zero v = pair-first bad_operand _ _ (outer ∙ or_no _ _ (ne_eqb _ _ k) ∙ le-ltb _ _ v)

-- a class by its number
pub faults-by : (t : List ℕ) (p k : ℕ) → k ≡ class_code (class_at t p) → (c : Class) → k ≡ class_code c
    → faults_in (class_rules t p c) ≡ faults_in (class_rules t p (class_at t p))
faults-by t p k e c q = ap (λ (d : Class). faults_in (class_rules t p d)) (code_same c (class_at t p) (sym q ∙ e))

pub loose-by : (t : List ℕ) (p : ℕ) (n : Parsed) (k : ℕ) → k ≡ class_code (class_at t p) → (c : Class) → k ≡ class_code c
    → faults_in (loose_class t p n c) ≡ faults_in (loose_class t p n (class_at t p))
loose-by t p n k e c q = ap (λ (d : Class). faults_in (loose_class t p n d)) (code_same c (class_at t p) (sym q ∙ e))

-- all other classes have shape rules alone
shape-alone : (t : List ℕ) (p : ℕ) (c : Class) → (class_code c ≡ 8 → ⊥) → (class_code c ≡ 5 → ⊥) → (class_code c ≡ 9 → ⊥)
    → (class_code c ≡ 19 → ⊥) → Ok (all_shape (class_rules t p c))
unfolding Ok ◌and◌
shape-alone t p (executes goes) j b x n = tt
shape-alone t p (executes forks) j b x n = tt
shape-alone t p (executes BRN) j b x n = tt
shape-alone t p (executes JMG) j b x n = tt
shape-alone t p (executes BRI) j b x n = tt
shape-alone t p (executes BSW) j b x n = absurd (b refl)
shape-alone t p (executes ENT) j b x n = tt
shape-alone t p (executes RTN) j b x n = tt
shape-alone t p (executes JSR) j b x n = absurd (j refl)
shape-alone t p (executes EXI) j b x n = absurd (x refl)
shape-alone t p (executes SSS) j b x n = tt
shape-alone t p (executes ERB) j b x n = tt
shape-alone t p (executes CHK) j b x n = tt
shape-alone t p (marks PPM) j b x n = tt
shape-alone t p (marks ERR) j b x n = tt
shape-alone t p (marks IFF) j b x n = tt
shape-alone t p (marks ESW) j b x n = tt
shape-alone t p (marks PRC) j b x n = tt
shape-alone t p (marks ENP) j b x n = tt
shape-alone t p none j b x n = absurd (n refl)

module _ (t : List ℕ) (p k : ℕ) (e : k ≡ class_code (class_at t p)) where
  module _ (j : k ≡ 8 → ⊥) (b : k ≡ 5 → ⊥) (x : k ≡ 9 → ⊥) (n : k ≡ 19 → ⊥) where
    alone : faults_in (class_rules t p (class_at t p)) ≡ if (holds (class_rules t p (class_at t p))) 0 7
    alone =
        shape-faults (class_rules t p (class_at t p)) (shape-alone t p (class_at t p) (λ q. j (e ∙ q)) (λ q. b (e ∙ q)) (λ q. x (e ∙ q)) (λ q. n (e ∙ q)))

    pub alone-lawful : holds (class_rules t p (class_at t p)) ≡ true → 0 ≡ faults_in (class_rules t p (class_at t p))
    alone-lawful h = sym (alone ∙ if_yes _ _ _ h)

    pub alone-broken : holds (class_rules t p (class_at t p)) ≡ false → 7 ≡ faults_in (class_rules t p (class_at t p))
    alone-broken h = sym (alone ∙ if_no _ _ _ h)

-- the classes of which no rule is left out
loose_same : (t : List ℕ) (p : ℕ) (n : Parsed) (c : Class) → (class_code c ≡ 8 → ⊥) → (class_code c ≡ 2 → ⊥) → (class_code c ≡ 3 → ⊥)
    → (class_code c ≡ 19 → ⊥) → (class_code c ≡ 15 → ⊥) → faults_in (class_rules t p c) ≡ faults_in (loose_class t p n c)
loose_same t p n (executes goes) j b g z i = refl
loose_same t p n (executes forks) j b g z i = refl
loose_same t p n (executes BRN) j b g z i = absurd (b refl)
loose_same t p n (executes JMG) j b g z i = absurd (g refl)
loose_same t p n (executes BRI) j b g z i = refl
loose_same t p n (executes BSW) j b g z i = refl
loose_same t p n (executes ENT) j b g z i = refl
loose_same t p n (executes RTN) j b g z i = refl
loose_same t p n (executes JSR) j b g z i = absurd (j refl)
loose_same t p n (executes EXI) j b g z i = refl
loose_same t p n (executes SSS) j b g z i = refl
loose_same t p n (executes ERB) j b g z i = refl
loose_same t p n (executes CHK) j b g z i = refl
loose_same t p n (marks PPM) j b g z i = refl
loose_same t p n (marks ERR) j b g z i = refl
loose_same t p n (marks IFF) j b g z i = absurd (i refl)
loose_same t p n (marks ESW) j b g z i = refl
loose_same t p n (marks PRC) j b g z i = refl
loose_same t p n (marks ENP) j b g z i = refl
loose_same t p n none j b g z i = absurd (z refl)

pub loose-class : (t : List ℕ) (p : ℕ) (n : Parsed) (k : ℕ) → k ≡ class_code (class_at t p) → (k ≡ 8 → ⊥) → (k ≡ 2 → ⊥) → (k ≡ 3 → ⊥)
    → (k ≡ 19 → ⊥) → (k ≡ 15 → ⊥) → faults_in (class_rules t p (class_at t p)) ≡ faults_in (loose_class t p n (class_at t p))
loose-class t p n k e j b g z i =
    loose_same t p n (class_at t p) (λ q. j (e ∙ q)) (λ q. b (e ∙ q)) (λ q. g (e ∙ q)) (λ q. z (e ∙ q)) (λ q. i (e ∙ q))

-- an IFF whose target is not given
module _ (t : List ℕ) (p : ℕ) (n : Parsed) where
  iff-faults : faults_in (loose_class t p n (marks IFF)) ≡ if (below_iff t p and true) 0 7
  unfolding Ok ◌and◌
  iff-faults = shape-faults (loose_class t p n (marks IFF)) tt

  pub iff-lawful : below_iff t p ≡ true → 0 ≡ faults_in (loose_class t p n (marks IFF))
  iff-lawful h = sym (iff-faults ∙ if_yes _ _ _ (and_yes _ _ h))

  pub iff-stray : below_iff t p ≡ false → 7 ≡ faults_in (loose_class t p n (marks IFF))
  iff-stray h = sym (iff-faults ∙ if_no _ _ _ (and_no _ _ h))

-- the count of a JSR's exits
or-last : (a b : Bool) → b ≡ true → a or b ≡ true
unfolding ◌or◌
or-last true b e = refl
or-last false b e = e

module _ (t : List ℕ) (p k : ℕ) (e : k ≡ class_code (class_at t p)) where
  pub known-other : (k ≡ 8 → ⊥) → true ≡ count_known t p
  unfolding count_known
  known-other h = sym (or_yes _ _ (not-no _ (is_code (class_at t p) (executes JSR) k e ∙ ne_eqb _ _ h)))

  unnamed-known : names_procedure t p ≡ false → true ≡ count_known t p
  unfolding count_known
  unnamed-known h = sym (or-last _ _ (or_yes _ _ (not-no _ h)))

  module _ (v : ℕ) (q : v ≡ get_or t (8 + 8 * p + 3) 0) where
    pub known-kind : (get_or t (8 + 8 * p + 1) 0 ≡ 6 → ⊥) → true ≡ count_known t p
    known-kind h = unnamed-known (other_place t p v q h)

    module _ (c : ℕ) (d : c ≡ class_code (class_at t v)) (s : get_or t (8 + 8 * p + 1) 0 ≡ 6) where
      pub known-unnamed : (c ≡ 17 → ⊥) → true ≡ count_known t p
      known-unnamed h = unnamed-known (names-place t p v q c d s ∙ ne_eqb _ _ h)

      pub known-procedure : k ≡ 8 → c ≡ 17 → eqb (get_or t (8 + 8 * v + 1) 0) 1 ≡ count_known t p
      unfolding count_known value_known value field
      known-procedure j r =
          sym (or_no _ _ (not_yes _ (is_code (class_at t p) (executes JSR) k e ∙ eq-eqb _ _ j))
          ∙ or_no _ _ (not_yes _ (names-place t p v q c d s ∙ eq-eqb _ _ r)) ∙ rw (← q) refl)
