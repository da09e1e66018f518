-- Classes by their numbers in the constant table: a test of a class is a test of its number.
-- Assumes nothing.
use Prim.Native.Nat.{ℕ, zero, suc, ◌-◌, ◌≤◌}
use mathlib.Core.Path.{◌≡◌, refl, sym, ap, subst, ◌∙◌}
use mathlib.Core.Bool.{Bool, true, false}
use mathlib.Core.List.{List}
use native.Mathlib.Omega.{arith}
use lib.Dec.{eqb, ltb}
use borrow.Author.Tests.{eqb-true, eqb-false}
use Rattle.base.specs.Test.{if, Ok}
use Rattle.base.proofs.Bool.{passed}
use Rattle.ops.specs.Class.{Flow, Marker, Class, executes, marks, none, is, is_executable, class_code, goes, forks, BRN, JMG, BRI, BSW, ENT, RTN, JSR, EXI, SSS, ERB, CHK, PPM, ERR, IFF, ESW, PRC, ENP}
use Rattle.ops.proofs.Classes.{is_eq}
use Rattle.rules.specs.Check.{reaches, may_reach, must_reach, is_outside, global_target}
use Rattle.rules.specs.Table.{size, class_at, executable}
use Rattle.bodies.proofs.Places.{class-past}

-- the class of a number
unfoldable pub decoded : ℕ → Class
decoded k =
    if (eqb k 0) (executes goes) (if (eqb k 1) (executes forks) (if (eqb k 2) (executes BRN) (if (eqb k 3) (executes JMG)
    (if (eqb k 4) (executes BRI) (if (eqb k 5) (executes BSW) (if (eqb k 6) (executes ENT) (if (eqb k 7) (executes RTN)
    (if (eqb k 8) (executes JSR) (if (eqb k 9) (executes EXI) (if (eqb k 10) (executes SSS) (if (eqb k 11) (executes ERB)
    (if (eqb k 12) (executes CHK) (if (eqb k 13) (marks PPM) (if (eqb k 14) (marks ERR) (if (eqb k 15) (marks IFF)
    (if (eqb k 16) (marks ESW) (if (eqb k 17) (marks PRC) (if (eqb k 18) (marks ENP) none))))))))))))))))))

decoded-flow : (m : Flow) → decoded (class_code (executes m)) ≡ executes m
unfolding decoded if
decoded-flow goes = refl
decoded-flow forks = refl
decoded-flow BRN = refl
decoded-flow JMG = refl
decoded-flow BRI = refl
decoded-flow BSW = refl
decoded-flow ENT = refl
decoded-flow RTN = refl
decoded-flow JSR = refl
decoded-flow EXI = refl
decoded-flow SSS = refl
decoded-flow ERB = refl
decoded-flow CHK = refl

decoded-marker : (k : Marker) → decoded (class_code (marks k)) ≡ marks k
unfolding decoded if
decoded-marker PPM = refl
decoded-marker ERR = refl
decoded-marker IFF = refl
decoded-marker ESW = refl
decoded-marker PRC = refl
decoded-marker ENP = refl

decoded-code : (c : Class) → decoded (class_code c) ≡ c
unfolding decoded if
decoded-code (executes m) = decoded-flow m
decoded-code (marks k) = decoded-marker k
decoded-code none = refl

-- a class is known by its number
pub class-by : (c : Class) (k : ℕ) → k ≡ class_code c → c ≡ decoded k
class-by c k e = sym (ap decoded e ∙ decoded-code c)

pub code_same : (c d : Class) → class_code c ≡ class_code d → c ≡ d
code_same c d e = sym (decoded-code c) ∙ ap decoded e ∙ decoded-code d

same_flow : (m : Flow) → is (executes m) (executes m) ≡ true
same_flow goes = refl
same_flow forks = refl
same_flow BRN = refl
same_flow JMG = refl
same_flow BRI = refl
same_flow BSW = refl
same_flow ENT = refl
same_flow RTN = refl
same_flow JSR = refl
same_flow EXI = refl
same_flow SSS = refl
same_flow ERB = refl
same_flow CHK = refl

same-marker : (k : Marker) → is (marks k) (marks k) ≡ true
same-marker PPM = refl
same-marker ERR = refl
same-marker IFF = refl
same-marker ESW = refl
same-marker PRC = refl
same-marker ENP = refl

is_same : (c : Class) → is c c ≡ true
is_same (executes m) = same_flow m
is_same (marks k) = same-marker k
is_same none = refl

pub refuted : (b : Bool) → (Ok b → ⊥) → b ≡ false
refuted true h = absurd (h passed)
refuted false h = refl

-- the test of a class is the test of its number
pub is_code : (c d : Class) (k : ℕ) → k ≡ class_code c → is c d ≡ eqb k (class_code d)
is_code c d k e = go (eqb k (class_code d)) refl
  where
    go : (b : Bool) → eqb k (class_code d) ≡ b → is c d ≡ eqb k (class_code d)
    go true q = subst (λ (x : Class). is x d ≡ true) (sym (code_same c d (sym e ∙ eqb-true _ _ q))) (is_same d) ∙ sym q
    go false q = refuted (is c d) (λ h. eqb-false _ _ q (e ∙ ap class_code (is_eq c d h))) ∙ sym q

flow-below : (m : Flow) → ltb (class_code (executes m)) 13 ≡ true
flow-below goes = refl
flow-below forks = refl
flow-below BRN = refl
flow-below JMG = refl
flow-below BRI = refl
flow-below BSW = refl
flow-below ENT = refl
flow-below RTN = refl
flow-below JSR = refl
flow-below EXI = refl
flow-below SSS = refl
flow-below ERB = refl
flow-below CHK = refl

marker-above : (k : Marker) → ltb (class_code (marks k)) 13 ≡ false
marker-above PPM = refl
marker-above ERR = refl
marker-above IFF = refl
marker-above ESW = refl
marker-above PRC = refl
marker-above ENP = refl

executable-below : (c : Class) → is_executable c ≡ ltb (class_code c) 13
executable-below (executes m) = sym (flow-below m)
executable-below (marks k) = sym (marker-above k)
executable-below none = refl

pub executable-code : (t : List ℕ) (q k : ℕ) → k ≡ class_code (class_at t q) → executable t q ≡ ltb k 13
unfolding executable
executable-code t q k e = executable-below (class_at t q) ∙ rw e refl

pub code-past : (t : List ℕ) (q : ℕ) → size t ≤ q → 19 ≡ class_code (class_at t q)
code-past t q h = rw (class-past t q h) refl

-- a branch by 1 + its place
module _ (t : List ℕ) (p : ℕ) where
  pub may_none : (x : ℕ) → x ≡ 0 → true ≡ may_reach t p x
  may_none zero e = refl
  may_none (suc q) e = absurd (omega arith)

  pub may-some : (x : ℕ) → (x ≡ 0 → ⊥) → reaches t p (x - 1) ≡ may_reach t p x
  may-some zero h = absurd (h refl)
  may-some (suc q) h = let z : suc q - 1 ≡ q = omega arith in rw z refl

  pub must-none : (x : ℕ) → x ≡ 0 → false ≡ must_reach t p x
  must-none zero e = refl
  must-none (suc q) e = absurd (omega arith)

  pub must-some : (x : ℕ) → (x ≡ 0 → ⊥) → reaches t p (x - 1) ≡ must_reach t p x
  must-some zero h = absurd (h refl)
  must-some (suc q) h = let z : suc q - 1 ≡ q = omega arith in rw z refl

pub global-none : (t : List ℕ) (x : ℕ) → x ≡ 0 → false ≡ global_target t x
global-none t zero e = refl
global-none t (suc q) e = absurd (omega arith)

pub global-some : (t : List ℕ) (x : ℕ) → (x ≡ 0 → ⊥) → is_outside t (x - 1) ≡ global_target t x
global-some t zero h = absurd (h refl)
global-some t (suc q) h = let z : suc q - 1 ≡ q = omega arith in rw z refl
