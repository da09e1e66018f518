-- What later code takes from a table that passed its check, in the terms of the code, so that it tests no index.
-- Assumes nothing.
use Prim.Native.Nat.{ℕ, zero, suc, ◌+◌, ◌-◌, ◌*◌, ◌<◌, ◌≤◌}
use mathlib.Core.Path.{◌≡◌, refl, sym, ap, subst, ◌∙◌}
use mathlib.Core.Bool.{Bool, true, false, not}
use mathlib.Core.List.{List, [], ◌∷◌}
use mathlib.Core.Logic.{⊎_elim}
use native.Mathlib.Omega.{arith}
use native.Mathlib.Numerals.{add-one}
use native.Mathlib.Nat.{add-zero}
use lib.Dec.{eqb, leb}
use lib.ListN.{length, get_or}
use Rattle.base.specs.Test.{◌and◌, ◌or◌, if, Ok}
use Rattle.base.specs.Lists.{member}
use Rattle.base.proofs.Bool.{and-2, and-3, and_l, and_r, by-if, failed, not-both, ok-eq, ok-le, or_cases, passed, test-true}
use Rattle.ops.specs.Class.{Flow, Class, executes, marks, none, is, IFF, goes, forks, BRN, JMG, BRI, BSW, ENT, RTN, JSR, EXI, SSS, ERB, CHK}
use Rattle.ops.specs.Format.{Format}
use Rattle.ops.specs.Lookup.{first_with, by_number, row_of_number, row_at, no_row}
use Rattle.ops.specs.Ops.{Row, rows, class_in}
use Rattle.std.specs.Prelude.{Some, None}
use Rattle.ops.proofs.First.{row-known, first-sound}
use Rattle.ops.proofs.Every.{every}
use Rattle.rules.specs.Check.{among, register_ok, value_ok, operand_ok, third_ok, fields_ok, holds, place_rules, reaches, may_reach, must_reach, is_outside, global_target, layout_ok, table_ok}
use Rattle.rules.specs.Table.{size, field, class_at, callee, declared, executable, slot, target1, target2, target3}
use Rattle.rules.proofs.Exits.{reaches-executable}
use Rattle.rules.proofs.Facts.{rule-when, rules-at}
use Rattle.table_layout.specs.Laid.{Laid}
use Rattle.bodies.proofs.Places.{arrives-inside, class_of}
use Rattle.tables.proofs.Passes.{laid_of, laid-long}

-- operations that go on to the place right after them
abbrev pub goes_onward : Flow → Bool
goes_onward goes = true
goes_onward forks = true
goes_onward ENT = true
goes_onward RTN = true
goes_onward SSS = true
goes_onward CHK = true
goes_onward BRN = false
goes_onward JMG = false
goes_onward BRI = false
goes_onward BSW = false
goes_onward JSR = false
goes_onward EXI = false
goes_onward ERB = false

-- registers: no format takes an index register past 3
last_small : ℕ → Row → Bool
last_small i r = leb r.one.last_x 6 and leb r.two.last_x 6

rows-small : Ok (every last_small 0 rows)
unfolding rows Ok ◌and◌ last_small
rows-small = tt

register-small : (f : Format) (k r : ℕ) → f.last_x ≤ 6 → Ok (register_ok f k r) → r < 7
unfolding register_ok among
register-small f k r l h =
    by-if (λ (b : Bool). Ok b → r < 7) _ _ _
    (λ _ g. let e : r ≤ f.last_x = ok-le r f.last_x (and_r _ _ g) in omega arith)
    (λ _. by-if (λ (b : Bool). Ok b → r < 7) _ _ _
    (λ _ g. let e : r ≤ 6 = ok-le r 6 (and_r _ _ g) in omega arith)
    (λ _ g. let e : r ≡ 0 = ok-eq r 0 g in omega arith))
    h

-- the registers of the entry at p
pub record Registers (t : List ℕ) (p : ℕ) : Type 0 where
  pub one : get_or t (8 + 8 * p + 2) 0 < 7
  pub two : get_or t (8 + 8 * p + 5) 0 < 7

registers-in : (t : List ℕ) (p : ℕ) (rs : List Row) (s : ℕ) → Ok (every last_small s rs) → Ok (fields_ok t p rs) → Registers t p
unfolding fields_ok operand_ok field last_small
registers-in t p [] s a h = absurd (failed h)
registers-in t p (r ∷ rs) s a h =
    by-if (λ (b : Bool). Ok b → Registers t p) _ _ _
    (λ _ g.
    record {
      one = register-small r.one (get_or t (8 + 8 * p + 1) 0) _ (ok-le _ 6 (and_l _ _ (and_l _ _ a))) (and-2 _ _ _ (and_l _ _ g));
      two = register-small r.two (get_or t (8 + 8 * p + 4) 0) _ (ok-le _ 6 (and_r _ _ (and_l _ _ a))) (and-2 _ _ _ (and-2 _ _ _ g));
    })
    (λ _ g. registers-in t p rs (suc s) (and_r _ _ a) g)
    h

-- an entry keeps the rules of the row r
pub record Kept (t : List ℕ) (p : ℕ) (r : Row) : Type 0 where
  pub one : Ok (operand_ok t r.one (field t p 1) (field t p 2) (field t p 3))
  pub two : Ok (operand_ok t r.two (field t p 4) (field t p 5) (field t p 6))
  pub three : Ok (third_ok t r.three (field t p 7))

kept_in_lem : (t : List ℕ) (p : ℕ) (rs : List Row) (s j : ℕ) → first_with by_number (field t p 0) s rs ≡ Some j → Ok (fields_ok t p rs)
    → Kept t p (get_or rs (j - s) no_row)
unfolding if fields_ok
kept_in_lem t p [] s j e h = absurd (row-known (sym e))
kept_in_lem t p (r ∷ rs) s j e h = go (kept_in_lem t p rs (suc s) j) (eqb (field t p 0) r.number) refl
  where
    go : (first_with by_number (field t p 0) (suc s) rs ≡ Some j → Ok (fields_ok t p rs) → Kept t p (get_or rs (j - suc s) no_row)) → (b : Bool)
        → eqb (field t p 0) r.number ≡ b → Kept t p (get_or (r ∷ rs) (j - s) no_row)
    go ih true q =
        let g : Some s ≡ Some j = rw q at e in
        let g' : s ≡ j = cc in
        let z : j - s ≡ 0 = omega arith in
        let k = rw q at h in
        rw z record { one = and_l _ _ k; two = and-2 _ _ _ k; three = and_r _ _ (and_r _ _ k) }
    go ih false q =
        let g : first_with by_number (field t p 0) (suc s) rs ≡ Some j = rw q at e in
        let z : j - s ≡ suc (j - suc s) = omega (arith, (first-sound by_number no_row (field t p 0) rs (suc s) j g).from) in
        rw z (ih g (rw q at h))

-- the value of an IFF is always known: its row takes no other kind
only_kind : ℕ → List ℕ → Bool
only_kind k [] = true
only_kind k (x ∷ xs) = eqb x k and only_kind k xs

only-member : (k j : ℕ) (xs : List ℕ) → Ok (only_kind k xs) → Ok (member j xs) → j ≡ k
unfolding only_kind member
only-member k j [] h m = absurd (failed m)
only-member k j (x ∷ xs) h m =
    ⊎_elim (λ e. ok-eq j x e ∙ ok-eq x k (and_l _ _ h)) (λ n. only-member k j xs (and_r _ _ h) n) (or_cases _ _ m)

iff_value : ℕ → Row → Bool
iff_value i r = not (is r.class (marks IFF)) or only_kind 1 r.one.kinds

rows-iff : Ok (every iff_value 0 rows)
unfolding rows Ok ◌and◌ ◌or◌ iff_value only_kind
rows-iff = tt

iff-in : (t : List ℕ) (p : ℕ) (rs : List Row) (s : ℕ) → Ok (every iff_value s rs) → Ok (fields_ok t p rs)
    → Ok (is (class_in (field t p 0) rs) (marks IFF)) → field t p 1 ≡ 1
unfolding if fields_ok operand_ok iff_value
iff-in t p [] s a h i = absurd (failed h)
iff-in t p (r ∷ rs) s a h i = go (iff-in t p rs (suc s) (and_r _ _ a)) (eqb (field t p 0) r.number) refl
  where
    go : (Ok (fields_ok t p rs) → Ok (is (class_in (field t p 0) rs) (marks IFF)) → field t p 1 ≡ 1) → (b : Bool)
        → eqb (field t p 0) r.number ≡ b → field t p 1 ≡ 1
    go ih true q =
        let c : Ok (is r.class (marks IFF)) = subst (λ (b : Bool). Ok (is (if b r.class (class_in (field t p 0) rs)) (marks IFF))) q i in
        let k = rw q at h in
        ⊎_elim (λ n. absurd (not-both _ n c)) (λ o. only-member 1 (field t p 1) r.one.kinds o (and_l _ _ (and_l _ _ k)))
        (or_cases _ _ (and_l _ _ a))
    go ih false q =
        ih (rw q at h) (subst (λ (b : Bool). Ok (is (if b r.class (class_in (field t p 0) rs)) (marks IFF))) q i)

-- a branch that may be missing, where it is there
may-some : (t : List ℕ) (p x q : ℕ) → Ok (may_reach t p x) → x ≡ suc q → Ok (reaches t p q)
may-some t p x q h e = subst (λ (y : ℕ). Ok (may_reach t p y)) e h

module _ (t : List ℕ) (ok : Ok (table_ok t)) where
  -- limits and exact length
  pub table-laid : Laid t
  unfolding table_ok
  table-laid = let e : layout_ok t ≡ true = test-true _ (and_l _ _ ok) in laid_of t (laid-long t e) e

  -- the words of an entry lie in the table
  pub entry-inside : (p : ℕ) → p < get_or t 0 0 → 8 * p + 15 < length t
  entry-inside p h = omega (arith, table-laid.exact)

  -- a place that can be arrived at, or that another reaches, is in the table
  pub arrived-inside : (p : ℕ) → Ok (executable t p) → p < get_or t 0 0
  unfolding size
  arrived-inside p h = arrives-inside t p (test-true _ h)

  pub reached-inside : (p q : ℕ) → Ok (reaches t p q) → q < get_or t 0 0
  reached-inside p q h = arrived-inside q (reaches-executable t p q h)

  -- the place after an operation that goes on
  next-by : (p : ℕ) (m : Flow) → Ok (goes_onward m) → class_at t p ≡ executes m → Ok (reaches t p (suc p))
  next-by p goes h e = and_l _ _ (rule-when t ok p (executes goes) e passed)
  next-by p forks h e = and_l _ _ (rule-when t ok p (executes forks) e passed)
  next-by p ENT h e = and_l _ _ (rule-when t ok p (executes ENT) e passed)
  next-by p RTN h e = and_l _ _ (rule-when t ok p (executes RTN) e passed)
  next-by p SSS h e = and_l _ _ (rule-when t ok p (executes SSS) e passed)
  next-by p CHK h e = and_l _ _ (rule-when t ok p (executes CHK) e passed)
  next-by p BRN h e = absurd (failed h)
  next-by p JMG h e = absurd (failed h)
  next-by p BRI h e = absurd (failed h)
  next-by p BSW h e = absurd (failed h)
  next-by p JSR h e = absurd (failed h)
  next-by p EXI h e = absurd (failed h)
  next-by p ERB h e = absurd (failed h)

  pub next-reached : (p : ℕ) (m : Flow) → Ok (goes_onward m) → class_at t p ≡ executes m → Ok (reaches t p (p + 1))
  next-reached p m h e = rw (add-one p) (next-by p m h e)

  pub next-inside : (p : ℕ) (m : Flow) → Ok (goes_onward m) → class_at t p ≡ executes m → p + 1 < get_or t 0 0
  next-inside p m h e = reached-inside p (p + 1) (next-reached p m h e)

  -- the place that a fork branches to
  pub fork-reached : (p k q : ℕ) → class_at t p ≡ executes forks → slot t p k ≡ suc q → Ok (reaches t p q)
  unfolding slot
  fork-reached p k q e s =
      let r = rule-when t ok p (executes forks) e passed in
      by-if (λ (x : ℕ). x ≡ suc q → Ok (reaches t p q)) _ _ _
      (λ _ z. may-some t p (target1 t p) q (and-2 _ _ _ r) z)
      (λ _. by-if (λ (x : ℕ). x ≡ suc q → Ok (reaches t p q)) _ _ _
      (λ _ z. may-some t p (target2 t p) q (and-3 _ _ _ _ r) z)
      (λ _. by-if (λ (x : ℕ). x ≡ suc q → Ok (reaches t p q)) _ _ _
      (λ _ z. may-some t p (target3 t p) q (and_l _ _ (and_r _ _ (and_r _ _ (and_r _ _ r)))) z)
      (λ _ z. absurd (omega arith))))
      s

  -- a switch's default, a BRN's target and a JMG's
  pub default-reached : (p q : ℕ) → class_at t p ≡ executes BSW → target3 t p ≡ suc q → Ok (reaches t p q)
  default-reached p q e s = may-some t p (target3 t p) q (and-2 _ _ _ (rule-when t ok p (executes BSW) e passed)) s

  pub branch-reached : (p q : ℕ) → class_at t p ≡ executes BRN → target1 t p ≡ suc q → Ok (reaches t p q)
  branch-reached p q e s =
      subst (λ (y : ℕ). Ok (must_reach t p y)) s (and_l _ _ (rule-when t ok p (executes BRN) e passed))

  pub global-reached : (p q : ℕ) → class_at t p ≡ executes JMG → target1 t p ≡ suc q → Ok (is_outside t q)
  global-reached p q e s = subst (λ (y : ℕ). Ok (global_target t y)) s (and_l _ _ (rule-when t ok p (executes JMG) e passed))

  -- a JSR goes on past its exits, inside the table
  pub exits-reached : (p : ℕ) → class_at t p ≡ executes JSR → Ok (reaches t p (p + declared t (callee t p) + 1))
  exits-reached p e =
      rw (add-one (p + declared t (callee t p))) (and-3 _ _ _ _ (rule-when t ok p (executes JSR) e passed))

  pub exits-inside : (p : ℕ) → class_at t p ≡ executes JSR → p + declared t (callee t p) + 1 < get_or t 0 0
  exits-inside p e = reached-inside p _ (exits-reached p e)

  -- the fields of an entry keep the rules of its row
  pub fields-kept : (p : ℕ) → p < get_or t 0 0 → Ok (fields_ok t p rows)
  unfolding table_ok size
  fields-kept p h = and_l _ _ (rules-at t (get_or t 0 0) (and_r _ _ ok) p h)

  pub registers-small : (p : ℕ) → p < get_or t 0 0 → Registers t p
  registers-small p h = registers-in t p rows 0 rows-small (fields-kept p h)

  -- kinds, registers, values and unused fields are as the row of the operation says
  pub row_kept : (p i : ℕ) → p < get_or t 0 0 → row_of_number (get_or t (8 + 8 * p) 0) ≡ Some i → Kept t p (row_at i)
  unfolding row_of_number field
  row_kept p i h e =
      let o : get_or t (8 + 8 * p + 0) 0 ≡ get_or t (8 + 8 * p) 0 = rw (add-zero (8 + 8 * p)) refl in
      let z : i - 0 ≡ i = omega arith in
      subst (λ (x : ℕ). Kept t p (get_or rows x no_row)) z
      (kept_in_lem t p rows 0 i (subst (λ (x : ℕ). first_with by_number x 0 rows ≡ Some i) (sym o) e) (fields-kept p h))

  pub iff-known : (p : ℕ) → p < get_or t 0 0 → class_at t p ≡ marks IFF → get_or t (8 + 8 * p + 1) 0 ≡ 1
  unfolding size field
  iff-known p h e =
      let o : get_or t (8 + 8 * p + 0) 0 ≡ get_or t (8 + 8 * p) 0 = rw (add-zero (8 + 8 * p)) refl in
      let c : class_in (get_or t (8 + 8 * p + 0) 0) rows ≡ marks IFF = ap (λ (x : ℕ). class_in x rows) o ∙ sym (class_of t p h) ∙ e in
      iff-in t p rows 0 rows-iff (fields-kept p h) (rw c passed)
