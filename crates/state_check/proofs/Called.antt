-- What a JSR names, in the terms of the code.
-- Assumes nothing.
use Prim.Native.Nat.{ℕ, zero, suc, ◌+◌, ◌*◌, ◌<◌, ◌≤◌}
use mathlib.Core.Path.{◌≡◌, refl, sym, subst, ◌∙◌}
use mathlib.Core.Bool.{Bool, true, false}
use mathlib.Core.List.{List}
use native.Mathlib.Numerals.{add-one}
use lib.Dec.{ltb}
use lib.ListN.{get_or}
use Rattle.base.specs.Test.{◌and◌, if, Ok}
use Rattle.base.proofs.Bool.{and_l, and_r, by-if, failed, ok-eq, passed}
use Rattle.ops.specs.Class.{Class, JSR, PRC, executes, is, marks, none}
use Rattle.ops.specs.Ops.{class_in, rows}
use Rattle.rules.specs.State.{is_external, wait_ok}
use Rattle.rules.specs.Table.{callee, calls, class_at, external, externals, field, names_external, names_procedure, procedure, procedure_of, size, unnamed, value}
use Rattle.rules.proofs.Exits.{calls-jsr}
use Rattle.rules.proofs.Facts.{in_table}
use Rattle.bodies.proofs.Numbers.{jsr-class, jsr-number, marker-class, marker-number}
use Rattle.bodies.proofs.Places.{class_of, class-past}

pub not-ok : (b : Bool) → (Ok b → ⊥) → b ≡ false
not-ok true h = absurd (h passed)
not-ok false h = refl

-- no JSR to a procedure at j
calls-class : (t : List ℕ) (j : ℕ) (c : Class) → class_at t j ≡ c → (Ok (is c (executes JSR)) → ⊥) → 0 ≡ calls t j
unfolding calls if
calls-class t j c e h = rw (e, not-ok (is c (executes JSR)) h) refl

pub calls-past : (t : List ℕ) (j : ℕ) → size t ≤ j → 0 ≡ calls t j
calls-past t j h = calls-class t j none (class-past t j h) failed

pub calls-other : (t : List ℕ) (j : ℕ) → j < size t → (get_or t (8 + 8 * j) 0 ≡ 109 → ⊥) → 0 ≡ calls t j
calls-other t j l h = calls-class t j (class_in (get_or t (8 + 8 * j) 0) rows) (class_of t j l) (λ x. h (jsr-number _ x))

no-procedure : (a b : Bool) (v w : ℕ) → (Ok a → ⊥) → procedure_of (if a (procedure v) (if b (external w) unnamed)) ≡ 0
unfolding if
no-procedure true b v w h = absurd (h passed)
no-procedure false true v w h = refl
no-procedure false false v w h = refl

pub calls-unnamed : (t : List ℕ) (j : ℕ) → (Ok (names_procedure t j) → ⊥) → 0 ≡ calls t j
unfolding calls callee
calls-unnamed t j h = sym (by-if (λ (x : ℕ). x ≡ 0) _ _ _ (λ _. no-procedure _ _ _ _ h) (λ _. refl))

-- a JSR that names a procedure
pub names-kind : (t : List ℕ) (j : ℕ) → Ok (names_procedure t j) → get_or t (8 + 8 * j + 1) 0 ≡ 6
unfolding names_procedure field
names-kind t j h = ok-eq _ _ (and_l _ _ h)

pub names-prc : (t : List ℕ) (j : ℕ) → Ok (names_procedure t j) → Ok (is (class_at t (get_or t (8 + 8 * j + 3) 0)) (marks PRC))
unfolding names_procedure value field
names-prc t j h = and_r _ _ h

pub past-prc : (t : List ℕ) (q : ℕ) → size t ≤ q → Ok (is (class_at t q) (marks PRC)) → ⊥
past-prc t q h f = failed (subst (λ (c : Class). Ok (is c (marks PRC))) (class-past t q h) f)

pub other-prc : (t : List ℕ) (q : ℕ) → q < size t → (get_or t (8 + 8 * q) 0 ≡ 111 → ⊥) → Ok (is (class_at t q) (marks PRC)) → ⊥
other-prc t q l h f = h (marker-number PRC _ (subst (λ (c : Class). Ok (is c (marks PRC))) (class_of t q l) f))

pub calls-named : (t : List ℕ) (j q : ℕ) → j < size t → q < size t → q ≡ get_or t (8 + 8 * j + 3) 0 → get_or t (8 + 8 * j) 0 ≡ 109
    → get_or t (8 + 8 * j + 1) 0 ≡ 6 → get_or t (8 + 8 * q) 0 ≡ 111 → q + 1 ≡ calls t j
unfolding calls callee names_procedure value field if ◌and◌
calls-named t j q l m v o k p =
    add-one q
    ∙ sym
    (rw (
      class_of t j l ∙ jsr-class (get_or t (8 + 8 * j) 0) o,
      k,
      ← v,
      class_of t q m ∙ marker-class PRC
          (get_or t (8 + 8 * q) 0) p,
    ) refl)

-- a JSR to a procedure stands in the table
pub calls-inside : (t : List ℕ) (j c : ℕ) → c ≡ calls t j → (c ≡ 0 → ⊥) → j < size t
calls-inside t j zero e h = absurd (h refl)
calls-inside t j (suc q) e h = let i = (calls-jsr t j q (sym e)).0 in in_table t j (rw i passed)

-- waiting at the JSR of an EXP
wait-class : (t : List ℕ) (p : ℕ) (c : Class) → class_at t p ≡ c → (Ok (is c (executes JSR)) → ⊥) → false ≡ wait_ok t p true
unfolding ◌and◌
wait-class t p c e h = rw (e, not-ok (is c (executes JSR)) h) refl

pub wait-past : (t : List ℕ) (p : ℕ) → size t ≤ p → false ≡ wait_ok t p true
wait-past t p h = wait-class t p none (class-past t p h) failed

pub wait-other : (t : List ℕ) (p : ℕ) → p < size t → (get_or t (8 + 8 * p) 0 ≡ 109 → ⊥) → false ≡ wait_ok t p true
wait-other t p l h = wait-class t p (class_in (get_or t (8 + 8 * p) 0) rows) (class_of t p l) (λ x. h (jsr-number _ x))

-- the callee of a JSR is an EXP exactly where its operand is of that kind and below their count
no-external : (a b : Bool) (v w : ℕ) → (Ok b → ⊥) → is_external (if a (procedure v) (if b (external w) unnamed)) ≡ false
unfolding if
no-external true b v w h = refl
no-external false true v w h = absurd (h passed)
no-external false false v w h = refl

never : (a : Bool) → a and false ≡ false
unfolding ◌and◌
never true = refl
never false = refl

pub wait-kind : (t : List ℕ) (p : ℕ) → (get_or t (8 + 8 * p + 1) 0 ≡ 23 → ⊥) → false ≡ wait_ok t p true
unfolding callee names_external field
wait-kind t p h = sym (rw (no-external _ _ _ _ (λ x. h (ok-eq _ _ (and_l _ _ x)))) (never _))

pub wait-named : (t : List ℕ) (p : ℕ) → p < size t → get_or t (8 + 8 * p) 0 ≡ 109 → get_or t (8 + 8 * p + 1) 0 ≡ 23
    → ltb (get_or t (8 + 8 * p + 3) 0) (get_or t 4 0) ≡ wait_ok t p true
unfolding callee names_procedure names_external value externals field if ◌and◌
wait-named t p l o k =
    sym (rw (class_of t p l ∙ jsr-class (get_or t (8 + 8 * p) 0) o, k)
    (external-test (ltb (get_or t (8 + 8 * p + 3) 0) (get_or t 4 0)) _))
  where
    external-test : (b : Bool) (v : ℕ) → is_external (if b (external v) unnamed) ≡ b
    external-test true v = refl
    external-test false v = refl
