-- Laws of the smallest fault among rules: what all faults have, lists of shape rules alone, two rules, and those that classes share.
-- Assumes nothing.
use Prim.Native.Nat.{ℕ, zero, suc, ◌≤◌}
use mathlib.Core.Path.{◌≡◌, refl, sym, ◌∙◌}
use mathlib.Core.Bool.{Bool, true, false, not}
use mathlib.Core.List.{List, [], ◌∷◌}
use native.Mathlib.Omega.{arith}
use borrow.Author.Tests.{lt-leb}
use Rattle.base.specs.Test.{Ok, ◌and◌, ◌or◌, if}
use Rattle.base.proofs.Bool.{and_l, and_r, by-if, failed, if_no, if_yes}
use Rattle.rules.specs.Check.{Rule, class_rules, fault_at, faults_in, fields_ok, holds, is_outside, needs, smaller, starts_section}
use Rattle.rules.specs.Number.{Fault, bad_list, bad_operand, bad_shape, fault_number}
use Rattle.rules.specs.Table.{class_at}
use Rattle.ops.specs.Ops.{rows}
use Rattle.entries.specs.Coded.{apart_at}
use Rattle.language.specs.Fault.{loose_class, loose_fault}
use Rattle.language.specs.Text.{Parsed}
use Rattle.asm_shapes.specs.Shared.{beside, shared}

-- the smaller of two numbers is one of them
smaller-either : (P : ℕ → Type 0) (a b : ℕ) → P a → P b → P (smaller a b)
unfolding smaller
smaller-either P a zero h k = h
smaller-either P a (suc b) h k = by-if P _ _ _ (λ e. h) (λ e. k)

-- what holds of 0 and of each fault's number holds of the fault of rules
faults-either : (P : ℕ → Type 0) → P 0 → ((f : Fault) → P (fault_number f)) → (rs : List Rule) → P (faults_in rs)
faults-either P z h [] = z
faults-either P z h (r ∷ rs) =
    by-if P _ _ _ (λ e. faults-either P z h rs) (λ e. smaller-either P _ _ (h r.fault) (faults-either P z h rs))

-- no fault is above 7
fault-small : (f : Fault) → fault_number f ≤ 7
fault-small bad_operand = omega arith
fault-small bad_list = omega arith
fault-small bad_shape = omega arith

pub faults-small : (rs : List Rule) → faults_in rs ≤ 7
faults-small rs = faults-either (λ (n : ℕ). n ≤ 7) (omega arith) fault-small rs

-- none is below that of an operand
operand-first : (f : Fault) → smaller (fault_number bad_operand) (fault_number f) ≡ 4
unfolding smaller if
operand-first bad_operand = refl
operand-first bad_list = refl
operand-first bad_shape = refl

pub operand-least : (rs : List Rule) → smaller 4 (faults_in rs) ≡ 4
unfolding smaller
operand-least rs = faults-either (λ (n : ℕ). smaller 4 n ≡ 4) refl operand-first rs

-- a list of shape rules alone
abbrev is_shape : Fault → Bool
is_shape bad_operand = false
is_shape bad_list = false
is_shape bad_shape = true

abbrev pub all_shape : List Rule → Bool
all_shape [] = true
all_shape (r ∷ rs) = is_shape r.fault and all_shape rs

shape-step : (f : Fault) (a h : Bool) (n : ℕ) → Ok (is_shape f) → n ≡ if h 0 7 → if a n (smaller (fault_number f) n) ≡ if (a and h) 0 7
unfolding smaller if ◌and◌
shape-step bad_operand a h n s e = absurd (failed s)
shape-step bad_list a h n s e = absurd (failed s)
shape-step bad_shape true h n s e = e
shape-step bad_shape false true n s e = rw e refl
shape-step bad_shape false false n s e = rw e refl

pub shape-faults : (rs : List Rule) → Ok (all_shape rs) → faults_in rs ≡ if (holds rs) 0 7
unfolding if
shape-faults [] s = refl
shape-faults (r ∷ rs) s = shape-step r.fault r.test (holds rs) (faults_in rs) (and_l _ _ s) (shape-faults rs (and_r _ _ s))

-- two rules, the second of shape
module _ (f : Fault) where
  pub pair-faults : (a b : Bool) → faults_in (needs f a ∷ needs bad_shape b ∷ []) ≡ if a (if b 0 7) (fault_number f)
  unfolding smaller if
  pair-faults true true = refl
  pair-faults true false = refl
  pair-faults false true = refl
  pair-faults false false = second f
    where
      second : (g : Fault) → smaller (fault_number g) 7 ≡ fault_number g
      second bad_operand = refl
      second bad_list = refl
      second bad_shape = refl

  module _ (a b : Bool) where
    pub pair-first : a ≡ false → fault_number f ≡ faults_in (needs f a ∷ needs bad_shape b ∷ [])
    pair-first e = sym (pair-faults a b ∙ if_no _ _ _ e)

    pub pair-second : a ≡ true → b ≡ false → 7 ≡ faults_in (needs f a ∷ needs bad_shape b ∷ [])
    pair-second e g = sym (pair-faults a b ∙ if_yes _ _ _ e ∙ if_no _ _ _ g)

    pub pair-none : a ≡ true → b ≡ true → 0 ≡ faults_in (needs f a ∷ needs bad_shape b ∷ [])
    pair-none e g = sym (pair-faults a b ∙ if_yes _ _ _ e ∙ if_yes _ _ _ g)

-- the shared rules beside a fault
beside-fault : (b : Bool) (f : ℕ) → f ≤ 7 → (f ≡ 0 → ⊥) → f ≡ beside b f
unfolding smaller if
beside-fault true f h z = refl
beside-fault false zero h z = absurd (z refl)
beside-fault false (suc f) h z = rw (lt-leb 7 f (omega arith)) refl

beside-broken : (b : Bool) → 7 ≡ beside false (beside b 0)
unfolding smaller if
beside-broken true = refl
beside-broken false = refl

module _ (t : List ℕ) (p : ℕ) where
  pub shared-given : (f : ℕ) → f ≤ 7 → (f ≡ 0 → ⊥) → f ≡ shared t p f
  unfolding shared
  shared-given f h z =
      let e : f ≡ beside (not (starts_section t p) or is_outside t p) f = beside-fault _ f h z in
      beside-fault (apart_at t p) f h z ∙ rw (← e) refl

  module _ (f : ℕ) (z : f ≡ 0) where
    pub shared-near : apart_at t p ≡ false → 7 ≡ shared t p f
    unfolding shared
    shared-near e = rw (z, e) (beside-broken _)

    pub shared_start : apart_at t p ≡ true → (not (starts_section t p) or is_outside t p) ≡ false → 7 ≡ shared t p f
    unfolding shared smaller if
    shared_start e s = rw (z, e, s) refl

    pub shared-none : apart_at t p ≡ true → (not (starts_section t p) or is_outside t p) ≡ true → 0 ≡ shared t p f
    unfolding shared if
    shared-none e s = rw (z, e, s) refl

  -- the fault of a place by its parts
  pub fields-broken : fields_ok t p rows ≡ false → 4 ≡ fault_at t p
  unfolding fault_at
  fields-broken e =
      sym (if_no _ _ _ e ∙ operand-least (needs bad_shape (apart_at t p) ∷ needs bad_shape (not (starts_section t p) or is_outside t p) ∷ class_rules t p (class_at t p)))

  pub fields-lawful : fields_ok t p rows ≡ true → shared t p (faults_in (class_rules t p (class_at t p))) ≡ fault_at t p
  unfolding fault_at shared
  fields-lawful e = sym (if_yes _ _ _ e)

  pub loose-shared : (n : Parsed) → shared t p (faults_in (loose_class t p n (class_at t p))) ≡ loose_fault t p n
  unfolding loose_fault shared
  loose-shared n = refl
