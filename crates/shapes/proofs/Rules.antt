-- The rules by class, in the terms of the code: targets, bodies of procedures, and the card above.
-- Assumes nothing.
use Prim.Native.Nat.{ℕ, zero, suc, ◌+◌, ◌-◌, ◌*◌, ◌<◌, ◌≤◌}
use mathlib.Core.Path.{◌≡◌, refl, sym, ap, subst, ◌∙◌}
use mathlib.Core.Bool.{Bool, false, not}
use mathlib.Core.List.{List}
use native.Mathlib.Omega.{arith}
use native.Mathlib.Numerals.{add-one}
use lib.Dec.{eqb, ltb, leb}
use lib.ListN.{get_or}
use borrow.Author.Tests.{lt-ltb, le-ltb}
use Rattle.base.specs.Test.{◌and◌, ◌or◌}
use Rattle.ops.specs.Class.{Class, executes, marks, none, is, class_code, JSR, BSW, EXI, IFF, PPM, ERR, ESW, PRC, ENP}
use Rattle.ops.specs.Format.{no_kind}
use Rattle.rules.specs.Check.{reaches, may_reach, must_reach, global_target, is_exit, below_exit, below_iff, exit_number_ok, holds, flow_rules}
use Rattle.rules.specs.Table.{size, class_at, field, value, declared, target3, body_at, body_after}
use Rattle.table_layout.proofs.Belows.{and-true}
use Rattle.shape_core.proofs.Codes.{is_code}
use Rattle.shape_core.proofs.Tests.{and_no, and_yes, and_none}

module _ (t : List ℕ) (p : ℕ) (b : Bool) where
  pub goes-is : b ≡ reaches t p (p + 1) → reaches t p (suc p) ≡ b
  goes-is e = sym (e ∙ rw (add-one p) refl)

  -- the code's x is the target y
  module _ {x y : ℕ} (q : x ≡ y) where
    pub may : b ≡ may_reach t p x → may_reach t p y ≡ b
    may e = sym (e ∙ ap (may_reach t p) q)

    pub must : b ≡ must_reach t p x → must_reach t p y ≡ b
    must e = sym (e ∙ ap (must_reach t p) q)

    pub global : b ≡ global_target t x → global_target t y ≡ b
    global e = sym (e ∙ ap (global_target t) q)

  pub may3 : {x : ℕ} → x ≡ get_or t (8 + 8 * p + 7) 0 → b ≡ may_reach t p x → may_reach t p (target3 t p) ≡ b
  unfolding target3 field
  may3 q e = may q e

-- a procedure's PRC stands before the places in it
after-below : (c : Class) (p b : ℕ) → b ≤ p → body_after c p b ≤ suc p
after-below (executes m) p b h = omega arith
after-below none p b h = omega arith
after-below (marks PRC) p b h = omega arith
after-below (marks ENP) p b h = omega arith
after-below (marks PPM) p b h = omega arith
after-below (marks ERR) p b h = omega arith
after-below (marks IFF) p b h = omega arith
after-below (marks ESW) p b h = omega arith

pub body_below : (t : List ℕ) (p : ℕ) → body_at t p ≤ p
unfolding body_at
body_below t zero = omega arith
body_below t (suc p) = after-below (class_at t p) p (body_at t p) (body_below t p)

-- EXI in the body b
module _ (t : List ℕ) (p b : ℕ) (e : b ≡ body_at t p) where
  pub exi-outside : b ≡ 0 → false ≡ holds (flow_rules t p EXI)
  exi-outside z = sym (and_none _ _ (and_no _ _ (le-ltb 0 (body_at t p) (omega (arith, e, z)))))

  numbered : (d : ℕ) → d ≡ body_at t p → (d ≡ 0 → ⊥) → (leb (get_or t (8 + 8 * p + 3) 0) (get_or t (8 + 8 * (d - 1) + 3) 0) and (eqb (get_or t (8 + 8 * p + 1) 0) no_kind or ltb 0 (get_or t (8 + 8 * p + 3) 0))) ≡ exit_number_ok t p d
  unfolding exit_number_ok declared value field
  numbered zero q h = absurd (h refl)
  numbered (suc d) q h = let z : suc d - 1 ≡ d = omega arith in rw z refl

  inside : (b ≡ 0 → ⊥)
      → (leb (get_or t (8 + 8 * p + 3) 0) (get_or t (8 + 8 * (b - 1) + 3) 0) and (eqb (get_or t (8 + 8 * p + 1) 0) no_kind or ltb 0 (get_or t (8 + 8 * p + 3) 0)))
      ≡ holds (flow_rules t p EXI)
  inside h =
      let pos : 0 < body_at t p = omega (arith, e, h) in
      numbered b e h ∙ ap (exit_number_ok t p) e ∙ sym (and-true _) ∙ ap (λ (x : Bool). exit_number_ok t p (body_at t p) and x) (sym (and_yes _ _ (lt-ltb _ _ pos)))

  pub exi-inside : (b ≡ 0 → ⊥) → {v w k : ℕ} → v ≡ get_or t (8 + 8 * p + 3) 0 → w ≡ get_or t (8 + 8 * (b - 1) + 3) 0 → k ≡ get_or t (8 + 8 * p + 1) 0
      → (leb v w and (eqb k no_kind or ltb 0 v)) ≡ holds (flow_rules t p EXI)
  exi-inside h x y z = rw (x, y, z) (inside h)

-- the card above
module _ (t : List ℕ) where
  pub exit-top : (p : ℕ) → p ≡ 0 → false ≡ below_exit t p
  exit-top zero e = refl
  exit-top (suc q) e = absurd (omega arith)

  pub exit-under : (p : ℕ) → (p ≡ 0 → ⊥) → (is (class_at t (p - 1)) (executes JSR) or is_exit (class_at t (p - 1))) ≡ below_exit t p
  exit-under zero h = absurd (h refl)
  exit-under (suc q) h = let z : suc q - 1 ≡ q = omega arith in subst (λ (x : ℕ). (is (class_at t x) (executes JSR) or is_exit (class_at t x)) ≡ below_exit t (suc q)) (sym z) refl

  pub iff-top : (p : ℕ) → p ≡ 0 → false ≡ below_iff t p
  iff-top zero e = refl
  iff-top (suc q) e = absurd (omega arith)

  pub iff-under : (p k : ℕ) → (p ≡ 0 → ⊥) → k ≡ class_code (class_at t (p - 1)) → (eqb k 5 or eqb k 15) ≡ below_iff t p
  iff-under zero k h e = absurd (h refl)
  iff-under (suc q) k h e =
      let z : suc q - 1 ≡ q = omega arith in
      let d : k ≡ class_code (class_at t q) = e ∙ ap (λ (x : ℕ). class_code (class_at t x)) z in
      sym (subst (λ (b : Bool). below_iff t (suc q) ≡ b or eqb k 15) (is_code (class_at t q) (executes BSW) k d)
      (ap (λ (b : Bool). is (class_at t q) (executes BSW) or b) (is_code (class_at t q) (marks IFF) k d)))

-- the procedure at p is closed before the end
pub prc-closed : (t : List ℕ) (p n b : ℕ) → n ≡ get_or t 0 0 → b ≡ body_at t n → not (eqb (body_at t (size t)) (suc p)) ≡ not (eqb b (p + 1))
unfolding size
prc-closed t p n b e q =
    let s : body_at t (get_or t 0 0) ≡ b = sym (q ∙ ap (body_at t) e) in
    subst (λ (x : ℕ). not (eqb x (suc p)) ≡ not (eqb b (p + 1))) (sym s) (rw (add-one p) refl)
