-- Places in the terms of the code: the class, the body and whether a place can be arrived at, by the words of its entry.
-- Assumes nothing.
use Prim.Native.Nat.{ℕ, zero, suc, ◌+◌, ◌*◌, ◌<◌, ◌≤◌}
use mathlib.Core.Path.{◌≡◌, refl, sym, ap, subst, ◌∙◌}
use mathlib.Core.Bool.{Bool, true, false}
use mathlib.Core.List.{List}
use mathlib.Core.Logic.{⊎_elim, ◌≢◌}
use native.Mathlib.Omega.{arith}
use native.Mathlib.Numerals.{add-one}
use native.Mathlib.Nat.{add-zero}
use lib.Dec.{ltb}
use lib.ListN.{length, get_or, set}
use lib.Seq.{get_or-set_same, get_or-set_other}
use borrow.Author.Tests.{le-ltb}
use Rattle.base.specs.Test.{Ok, if}
use Rattle.base.proofs.Bool.{and_l, and_r, both, failed, if-true, lt-ok, ok-eq, ok-le, passed, true-ok}
use Rattle.ops.specs.Class.{Class, ENP, ERR, ESW, IFF, Marker, PPM, PRC, executes, is, is_executable, marks, none}
use Rattle.ops.specs.Ops.{class_in, rows}
use Rattle.rules.specs.Check.{class_rules, holds, layout_ok, limits_ok, place_rules, table_ok}
use Rattle.rules.specs.Table.{body_after, body_at, class_at, executable, field, size, table_length}
use Rattle.rules.proofs.Facts.{in_table, known, lt-suc-cases, rules-at}
use Rattle.bodies.specs.Bodies.{Entries}
use Rattle.bodies.proofs.Numbers.{marker-class, marker-number, marker_number}

-- the entries of a table that passes its check lie in it
pub entries-of : (t : List ℕ) (n : ℕ) → Ok (table_ok t) → n ≡ size t → Entries t n
unfolding table_ok layout_ok limits_ok table_length
entries-of t n ok e =
    let l : Ok (layout_ok t) = and_l _ _ ok in
    let few : size t ≤ 1024 = ok-le _ _ (and_l _ _ (and_l _ _ l)) in
    let long : length t ≡ table_length t = ok-eq _ _ (and_l _ _ (and_r _ _ l)) in
    record { count = e; few = omega arith; inside = omega arith }

-- and are at most 1,024
pub size-most : (t : List ℕ) → Ok (table_ok t) → size t ≤ 1024
unfolding table_ok layout_ok limits_ok
size-most t ok = ok-le _ _ (and_l _ _ (and_l _ _ (and_l _ _ ok)))

pub class-past : (t : List ℕ) (q : ℕ) → size t ≤ q → class_at t q ≡ none
unfolding class_at if
class-past t q h = rw (le-ltb q (size t) h) refl

pub class_of : (t : List ℕ) (q : ℕ) → q < size t → class_at t q ≡ class_in (get_or t (8 + 8 * q) 0) rows
unfolding class_at field
class_of t q h = if-true (ltb q (size t)) _ none (lt-ok q (size t) h) ∙ rw (add-zero (8 + 8 * q)) refl

-- bodies
pub body-zero : (t : List ℕ) → body_at t 0 ≡ 0
unfolding body_at
body-zero t = refl

pub body-step : (t : List ℕ) (p : ℕ) → p < size t → body_at t (p + 1) ≡ body_after (class_in (get_or t (8 + 8 * p) 0) rows) p
    (body_at t p)
unfolding body_at
body-step t p h = rw (add-one p, class_of t p h) refl

-- the body after an operation, by its number
pub after-prc : (op p b : ℕ) → op ≡ 111 → p + 1 ≡ body_after (class_in op rows) p b
after-prc op p b e = add-one p ∙ rw (marker-class PRC op e) refl

pub after-enp : (op p b : ℕ) → op ≡ 113 → 0 ≡ body_after (class_in op rows) p b
after-enp op p b e = rw (marker-class ENP op e) refl

after-class : (c : Class) (p b : ℕ) → (Ok (is c (marks PRC)) → ⊥) → (Ok (is c (marks ENP)) → ⊥) → b ≡ body_after c p b
after-class (executes m) p b h k = refl
after-class none p b h k = refl
after-class (marks PPM) p b h k = refl
after-class (marks ERR) p b h k = refl
after-class (marks IFF) p b h k = refl
after-class (marks ESW) p b h k = refl
after-class (marks PRC) p b h k = absurd (h passed)
after-class (marks ENP) p b h k = absurd (k passed)

pub after-other : (op p b : ℕ) → (op ≡ 111 → ⊥) → (op ≡ 113 → ⊥) → b ≡ body_after (class_in op rows) p b
after-other op p b h k = after-class (class_in op rows) p b (λ x. h (marker-number PRC op x)) (λ x. k (marker-number ENP op x))

-- one more element of a list that follows f
pub follows-suc : (f : ℕ → ℕ) (l : List ℕ) (p v : ℕ) → p + 1 < length l → v ≡ f (p + 1) → ((q : ℕ) → q ≤ p → get_or l q 0 ≡ f q)
    → (q : ℕ) → q ≤ p + 1 → get_or (set l (p + 1) v) q 0 ≡ f q
follows-suc f l p v h e g q k =
    ⊎_elim
    (λ (a : q < p + 1). let n : q ≢ p + 1 = omega arith in get_or-set_other l (p + 1) q v 0 n ∙ g q (omega arith))
    (λ (a : q ≡ p + 1). rw a (get_or-set_same l (p + 1) v 0 h ∙ e))
    (lt-suc-cases q (p + 1) (omega arith))

pub follows-zero : (f : ℕ → ℕ) (l : List ℕ) (v : ℕ) → 0 < length l → v ≡ f 0 → (q : ℕ) → q ≤ 0 → get_or (set l 0 v) q 0 ≡ f q
follows-zero f l v h e q k = let z : q ≡ 0 = omega arith in rw z (get_or-set_same l 0 v 0 h ∙ e)

-- places that can be arrived at
pub arrives-past : (t : List ℕ) (p : ℕ) → size t ≤ p → false ≡ executable t p
unfolding executable
arrives-past t p h = rw (class-past t p h) refl

-- an operation that is never arrived at stands at p
pub arrives-marker : (k : Marker) (t : List ℕ) (p : ℕ) → p < size t → get_or t (8 + 8 * p) 0 ≡ marker_number k
    → false ≡ executable t p
unfolding executable
arrives-marker k t p h e = rw (class_of t p h ∙ marker-class k (get_or t (8 + 8 * p) 0) e) refl

-- op is the number of none of the operations that are never arrived at, as the code finds it
abbrev pub Unmarked : ℕ → Type 0
Unmarked op = (k : Marker) → op ≡ marker_number k → ⊥

pub unmarked : (op : ℕ) → (op ≡ 104 → ⊥) → (op ≡ 105 → ⊥) → (op ≡ 110 → ⊥) → (op ≡ 111 → ⊥) → (op ≡ 113 → ⊥) → (op ≡ 114 → ⊥)
    → Unmarked op
unmarked op i e p c n r IFF = i
unmarked op i e p c n r ESW = e
unmarked op i e p c n r PPM = p
unmarked op i e p c n r PRC = c
unmarked op i e p c n r ENP = n
unmarked op i e p c n r ERR = r

entered : (op : ℕ) (c : Class) → class_in op rows ≡ c → Unmarked op → (c ≡ none → ⊥) → is_executable c ≡ true
entered op (executes m) e h z = refl
entered op (marks k) e h z = absurd (h k (marker-number k op (rw e (same_class k))))
  where
    same_class : (k : Marker) → Ok (is (marks k) (marks k))
    same_class PPM = passed
    same_class ERR = passed
    same_class IFF = passed
    same_class ESW = passed
    same_class PRC = passed
    same_class ENP = passed
entered op none e h z = absurd (z refl)

-- an entry of a table that passes its check has a class
pub class-known : (t : List ℕ) → Ok (table_ok t) → (p : ℕ) → p < size t → class_at t p ≡ none → ⊥
unfolding table_ok
class-known t ok p h e =
    let r = and_r _ _ (and_r _ _ (and_r _ _ (rules-at t (size t) (and_r _ _ ok) p h))) in
    failed (and_l _ _ (subst (λ (c : Class). Ok (holds (class_rules t p c))) e r))

pub arrives-other : (t : List ℕ) → Ok (table_ok t) → (p : ℕ) → p < size t → Unmarked (get_or t (8 + 8 * p) 0)
    → true ≡ executable t p
unfolding executable
arrives-other t ok p h u =
    let e : class_at t p ≡ class_in (get_or t (8 + 8 * p) 0) rows = class_of t p h in
    sym (ap is_executable e ∙ entered (get_or t (8 + 8 * p) 0) _ refl u (λ z. class-known t ok p h (e ∙ z)))

known-executable : (c : Class) → Ok (is_executable c) → Ok (known c)
known-executable (executes m) h = passed
known-executable (marks k) h = passed
known-executable none h = h

-- a place that can be arrived at is in the table
pub arrives-inside : (t : List ℕ) (p : ℕ) → executable t p ≡ true → p < size t
unfolding executable
arrives-inside t p e = in_table t p (known-executable (class_at t p) (true-ok _ e))
