-- The rules of a place by the number of its class, and the whole check as the passes of the code.
-- Assumes nothing.
use Prim.Native.Nat.{ℕ, zero, suc, ◌+◌, ◌*◌, ◌≤◌, ◌<◌}
use mathlib.Core.Path.{◌≡◌, refl, sym, ap, ◌∙◌}
use mathlib.Core.Bool.{Bool, true, false, not}
use mathlib.Core.List.{List}
use native.Mathlib.Omega.{arith}
use lib.ListN.{length, get_or}
use Rattle.base.specs.Test.{◌and◌, ◌or◌, if, Ok}
use Rattle.base.proofs.Bool.{and_l, and_r, ok-eq, ok-le, test-true, true-ok}
use Rattle.ops.specs.Class.{Class, Flow, Marker, executes, marks, none, class_code, goes, forks, BRN, JMG, BRI, BSW, ENT, RTN, JSR, EXI, SSS, ERB, CHK, PPM, ERR, IFF, ESW, PRC, ENP}
use Rattle.rules.specs.Check.{holds, class_rules, place_rules, rules_hold, layout_ok, limits_ok, table_ok}
use Rattle.rules.specs.Table.{class_at, size, table_length}
use Rattle.table_layout.specs.Below.{below}
use Rattle.entries.specs.Coded.{entry_ok}
use Rattle.table_layout.specs.Laid.{Laid}
use Rattle.entries.specs.Classes.{ClassesOf}
use Rattle.table_layout.proofs.Sizes.{limited, laid}
use Rattle.bodies.specs.Bodies.{Entries, Filled}
use Rattle.shape_core.specs.Known.{Known}
use Rattle.shape_core.proofs.Codes.{code_same}
use Rattle.shape_core.proofs.Tests.{and_no, and_yes}
use Rattle.tables.specs.Shape.{shape_ok}

-- the rules of the class whose number a place has
pub rules-by : (t : List ℕ) (p k : ℕ) → k ≡ class_code (class_at t p) → (c : Class) → k ≡ class_code c
    → holds (class_rules t p c) ≡ holds (class_rules t p (class_at t p))
rules-by t p k e c q = ap (λ (d : Class). holds (class_rules t p d)) (code_same c (class_at t p) (sym q ∙ e))

-- a number that is none of a class's
other-class : (c : Class) (k : ℕ) → k ≡ class_code c → (k ≡ 0 → ⊥) → (k ≡ 1 → ⊥) → (k ≡ 2 → ⊥) → (k ≡ 3 → ⊥) → (k ≡ 4 → ⊥) → (k ≡ 5 → ⊥) → (k ≡ 6 → ⊥) → (k ≡ 7 → ⊥) → (k ≡ 8 → ⊥) → (k ≡ 9 → ⊥) → (k ≡ 10 → ⊥) → (k ≡ 11 → ⊥) → (k ≡ 12 → ⊥) → (k ≡ 13 → ⊥) → (k ≡ 14 → ⊥) → (k ≡ 15 → ⊥) → (k ≡ 16 → ⊥) → (k ≡ 17 → ⊥) → (k ≡ 18 → ⊥) → c ≡ none
other-class (executes goes) k e h0 h1 h2 h3 h4 h5 h6 h7 h8 h9 h10 h11 h12 h13 h14 h15 h16 h17 h18 = absurd (h0 e)
other-class (executes forks) k e h0 h1 h2 h3 h4 h5 h6 h7 h8 h9 h10 h11 h12 h13 h14 h15 h16 h17 h18 = absurd (h1 e)
other-class (executes BRN) k e h0 h1 h2 h3 h4 h5 h6 h7 h8 h9 h10 h11 h12 h13 h14 h15 h16 h17 h18 = absurd (h2 e)
other-class (executes JMG) k e h0 h1 h2 h3 h4 h5 h6 h7 h8 h9 h10 h11 h12 h13 h14 h15 h16 h17 h18 = absurd (h3 e)
other-class (executes BRI) k e h0 h1 h2 h3 h4 h5 h6 h7 h8 h9 h10 h11 h12 h13 h14 h15 h16 h17 h18 = absurd (h4 e)
other-class (executes BSW) k e h0 h1 h2 h3 h4 h5 h6 h7 h8 h9 h10 h11 h12 h13 h14 h15 h16 h17 h18 = absurd (h5 e)
other-class (executes ENT) k e h0 h1 h2 h3 h4 h5 h6 h7 h8 h9 h10 h11 h12 h13 h14 h15 h16 h17 h18 = absurd (h6 e)
other-class (executes RTN) k e h0 h1 h2 h3 h4 h5 h6 h7 h8 h9 h10 h11 h12 h13 h14 h15 h16 h17 h18 = absurd (h7 e)
other-class (executes JSR) k e h0 h1 h2 h3 h4 h5 h6 h7 h8 h9 h10 h11 h12 h13 h14 h15 h16 h17 h18 = absurd (h8 e)
other-class (executes EXI) k e h0 h1 h2 h3 h4 h5 h6 h7 h8 h9 h10 h11 h12 h13 h14 h15 h16 h17 h18 = absurd (h9 e)
other-class (executes SSS) k e h0 h1 h2 h3 h4 h5 h6 h7 h8 h9 h10 h11 h12 h13 h14 h15 h16 h17 h18 = absurd (h10 e)
other-class (executes ERB) k e h0 h1 h2 h3 h4 h5 h6 h7 h8 h9 h10 h11 h12 h13 h14 h15 h16 h17 h18 = absurd (h11 e)
other-class (executes CHK) k e h0 h1 h2 h3 h4 h5 h6 h7 h8 h9 h10 h11 h12 h13 h14 h15 h16 h17 h18 = absurd (h12 e)
other-class (marks PPM) k e h0 h1 h2 h3 h4 h5 h6 h7 h8 h9 h10 h11 h12 h13 h14 h15 h16 h17 h18 = absurd (h13 e)
other-class (marks ERR) k e h0 h1 h2 h3 h4 h5 h6 h7 h8 h9 h10 h11 h12 h13 h14 h15 h16 h17 h18 = absurd (h14 e)
other-class (marks IFF) k e h0 h1 h2 h3 h4 h5 h6 h7 h8 h9 h10 h11 h12 h13 h14 h15 h16 h17 h18 = absurd (h15 e)
other-class (marks ESW) k e h0 h1 h2 h3 h4 h5 h6 h7 h8 h9 h10 h11 h12 h13 h14 h15 h16 h17 h18 = absurd (h16 e)
other-class (marks PRC) k e h0 h1 h2 h3 h4 h5 h6 h7 h8 h9 h10 h11 h12 h13 h14 h15 h16 h17 h18 = absurd (h17 e)
other-class (marks ENP) k e h0 h1 h2 h3 h4 h5 h6 h7 h8 h9 h10 h11 h12 h13 h14 h15 h16 h17 h18 = absurd (h18 e)
other-class none k e h0 h1 h2 h3 h4 h5 h6 h7 h8 h9 h10 h11 h12 h13 h14 h15 h16 h17 h18 = refl

pub rules-none : (t : List ℕ) (p k : ℕ) → k ≡ class_code (class_at t p) → (k ≡ 0 → ⊥) → (k ≡ 1 → ⊥) → (k ≡ 2 → ⊥) → (k ≡ 3 → ⊥) → (k ≡ 4 → ⊥) → (k ≡ 5 → ⊥) → (k ≡ 6 → ⊥) → (k ≡ 7 → ⊥) → (k ≡ 8 → ⊥) → (k ≡ 9 → ⊥) → (k ≡ 10 → ⊥) → (k ≡ 11 → ⊥) → (k ≡ 12 → ⊥) → (k ≡ 13 → ⊥) → (k ≡ 14 → ⊥) → (k ≡ 15 → ⊥) → (k ≡ 16 → ⊥) → (k ≡ 17 → ⊥) → (k ≡ 18 → ⊥) → false ≡ holds (class_rules t p (class_at t p))
rules-none t p k e h0 h1 h2 h3 h4 h5 h6 h7 h8 h9 h10 h11 h12 h13 h14 h15 h16 h17 h18 =
    sym (ap (λ (d : Class). holds (class_rules t p d)) (other-class (class_at t p) k e h0 h1 h2 h3 h4 h5 h6 h7 h8 h9 h10 h11 h12 h13 h14 h15 h16 h17 h18) ∙ and_no _ _ refl)

-- the rules of a place are those of its fields and those of its shape
regroup : (f s a b r : Bool) → (f and s) and (a and (b and r)) ≡ (f and (a and b)) and (s and r)
unfolding ◌and◌
regroup true true true true r = refl
regroup true true true false r = refl
regroup true true false true r = refl
regroup true true false false r = refl
regroup true false true true r = refl
regroup true false true false r = refl
regroup true false false true r = refl
regroup true false false false r = refl
regroup false s a b r = refl

pub rules-split : (t : List ℕ) (k : ℕ) → rules_hold t k ≡ below (entry_ok t) k and below (shape_ok t) k
unfolding rules_hold below entry_ok shape_ok
rules-split t zero = sym (and_yes true true refl)
rules-split t (suc k) = rw (rules-split t k) (regroup _ _ _ _ _)

pub laid_of : (t : List ℕ) → 8 ≤ length t → layout_ok t ≡ true → Laid t
unfolding layout_ok
laid_of t h e =
    let o : Ok (layout_ok t) = true-ok _ e in
    laid t (limited t h (test-true _ (and_l _ _ o))) (ok-eq _ _ (and_l _ _ (and_r _ _ o)))

-- a table that is too short, as a fact
pub laid-long : (t : List ℕ) → layout_ok t ≡ true → 8 ≤ length t
unfolding layout_ok table_length
laid-long t e = omega (arith, ok-eq (length t) _ (and_l _ _ (and_r _ _ (true-ok _ e))))

pub laid-few : (t : List ℕ) → layout_ok t ≡ true → get_or t 0 0 ≤ 1024
unfolding layout_ok limits_ok size
laid-few t e = ok-le (get_or t 0 0) 1024 (and_l _ _ (and_l _ _ (true-ok _ e)))

-- the check by its three parts
module _ (t : List ℕ) where
  pub check-layout : layout_ok t ≡ false → false ≡ table_ok t
  unfolding table_ok
  check-layout e = sym (and_no _ _ e)

  module _ (l : layout_ok t ≡ true) where
    pub check-fields : below (entry_ok t) (get_or t 0 0) ≡ false → false ≡ table_ok t
    unfolding table_ok size
    check-fields e = sym (and_yes _ _ l ∙ rules-split t (get_or t 0 0) ∙ and_no _ _ e)

    pub check-shapes : (n : ℕ) → n ≡ get_or t 0 0 → below (entry_ok t) (get_or t 0 0) ≡ true → below (shape_ok t) n ≡ table_ok t
    unfolding table_ok size
    check-shapes n q e = rw q (sym (and_yes _ _ l ∙ rules-split t (get_or t 0 0) ∙ and_yes _ _ e))

-- what the passes leave is what the shape rules ask
pub known_of : (t cs body : List ℕ) (n : ℕ) → Laid t → n ≡ get_or t 0 0 → n < length cs → ClassesOf t cs → Filled t n body → Known t cs body n
known_of t cs body n l e r c f =
    record {
      laid = l;
      count = e;
      room = r;
      classes = λ q h. c q (omega arith);
      wide = f.room;
      bodies = f.found;
    }

pub entries-of : (t : List ℕ) (n : ℕ) → Laid t → n ≡ get_or t 0 0 → Entries t n
unfolding size
entries-of t n l e = record { count = e; few = omega (arith, l.limits.few); inside = omega (arith, l.exact) }
