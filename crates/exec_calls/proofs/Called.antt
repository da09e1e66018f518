-- Calls: whom a JSR names, how many exits its callee declares, and where each exit sends, in the terms of the code.
-- Assumes nothing.
use Prim.Native.Nat.{ℕ, zero, suc, ◌+◌, ◌-◌, ◌*◌, ◌/◌, ◌<◌, ◌≤◌}
use mathlib.Core.Path.{◌≡◌, refl, sym, ap, subst, ◌∙◌}
use mathlib.Core.Bool.{Bool, true, false}
use mathlib.Core.List.{List, [], ◌∷◌, ◌++◌}
use mathlib.Core.Logic.{⊎_elim}
use native.Mathlib.Omega.{arith}
use lib.Dec.{leb}
use lib.ListN.{length, length-set, set}
use borrow.Author.Tests.{le-leb, le-ltb, lt-leb, lt-ltb, ne_eqb}
use Rattle.base.specs.Test.{Ok, if}
use Rattle.base.specs.Lists.{◌at◌, init}
use Rattle.base.proofs.Bool.{and-3, and_l, and_r, failed, if-true, le-ok, ok-eq, ok-lt, or_cases, passed}
use Rattle.ops.specs.Class.{Class, ERR, EXI, JSR, PPM, PRC, executes, is, marks}
use Rattle.ops.specs.Ops.{class_in, rows}
use Rattle.ops.proofs.Classes.{is_eq}
use Rattle.rules.specs.Table.{callee, class_at, declared, exit_count, external, externals, field, fresh_count, names_external, names_procedure, procedure, section6, size, target1, unnamed, value}
use Rattle.rules.specs.Check.{is_exit, is_named, table_ok}
use Rattle.rules.specs.Control.{by_card, by_ppm, exit_of, impossible, missing, to_errors, to_place}
use Rattle.rules.specs.State.{Link}
use Rattle.rules.proofs.Control as Rules
use Rattle.rules.proofs.Exits.{calls-jsr, exit-class, reaches-executable}
use Rattle.rules.proofs.Facts.{executable-in-table, in_table, rule-when}
use Rattle.bodies.proofs.Numbers.{marker-class, marker-number}
use Rattle.bodies.proofs.Places.{class_of}
use Rattle.exec_core.specs.Seen.{open_links, place_of}
use Rattle.exec_core.specs.Views.{toward}
use Rattle.exec_calls.specs.Stands.{Calls, Few, Open, Stands}
use Rattle.exec_calls.specs.Shows.{AnyCore, Leaves, TakesExit, links_after}
use Rattle.exec_calls.proofs.Linked.{links-count, links-drop, links-push, links-some, links-top}
use Rattle.exec_calls.proofs.Places.{class-at, header, place-long, rule-at, value-at}

-- a JSR of a table that passes its check
pub calls-of : (t : List ℕ) (j : ℕ) → Ok (table_ok t) → class_at t j ≡ executes JSR → Calls t j
calls-of t j ok e =
    let l = place-long t j ok (in_table t j (rw e passed)) in record { checked = ok; jsr = e; inside = l.0; few = l.1 }

-- two names, of which one is none
named-second : (a b : Bool) (v : ℕ) → (Ok a → ⊥) → Ok (is_named (if a (procedure v) (if b (external v) unnamed)))
    → (if a (procedure v) (if b (external v) unnamed) ≡ external v) × Ok b
unfolding if
named-second true b v h n = absurd (h passed)
named-second false true v h n = (refl, passed)
named-second false false v h n = absurd (failed n)

named-first : (a b : Bool) (v : ℕ) → (Ok b → ⊥) → Ok (is_named (if a (procedure v) (if b (external v) unnamed)))
    → (if a (procedure v) (if b (external v) unnamed) ≡ procedure v) × Ok a
unfolding if
named-first true b v h n = (refl, passed)
named-first false true v h n = absurd (h passed)
named-first false false v h n = absurd (failed n)

module _ {t : List ℕ} {j : ℕ} (y : Calls t j) where
  named : Ok (is_named (callee t j))
  named = and_l _ _ (rule-when t y.checked j (executes JSR) y.jsr passed)

  -- an EXP
  module _ (k : t at (8 + 8 * j + 1) ≡ 23) where
    second : (callee t j ≡ external (value t j)) × Ok (names_external t j)
    unfolding callee names_procedure field
    second = named-second (names_procedure t j) (names_external t j) (value t j) (λ h. let e : t at (8 + 8 * j + 1) ≡ 6 = ok-eq _ 6 (and_l _ _ h) in omega (arith, k)) named

    pub callee-external : callee t j ≡ external (t at (8 + 8 * j + 3))
    unfolding value field
    callee-external = second.0

    pub external-few : t at (8 + 8 * j + 3) < t at 4
    unfolding names_external value field externals
    external-few = ok-lt _ _ (and_r _ _ second.1)

    pub declared-external : declared t (callee t j) ≡ t at (8 + 8 * (t at 0) + t at 3 + t at (8 + 8 * j + 3))
    unfolding declared exit_count size fresh_count
    declared-external = ap (declared t) callee-external

  -- a procedure
  module _ (k : t at (8 + 8 * j + 1) ≡ 23 → ⊥) where
    first : (callee t j ≡ procedure (value t j)) × Ok (names_procedure t j)
    unfolding callee names_external field
    first = named-first (names_procedure t j) (names_external t j) (value t j) (λ h. k (ok-eq _ 23 (and_l _ _ h))) named

    pub callee-procedure : callee t j ≡ procedure (t at (8 + 8 * j + 3))
    unfolding value field
    callee-procedure = first.0

    pub procedure-few : t at (8 + 8 * j + 3) < t at 0
    unfolding names_procedure value field size
    procedure-few = let i : class_at t (value t j) ≡ marks PRC = is_eq _ _ (and_r _ _ first.1) in in_table t (value t j) (rw i passed)

    pub declared-procedure : declared t (callee t j) ≡ t at (8 + 8 * (t at (8 + 8 * j + 3)) + 3)
    unfolding declared value field
    declared-procedure = ap (declared t) callee-procedure

  -- the exits end in the table
  pub exits-inside : suc (j + declared t (callee t j)) < t at 0
  unfolding size
  exits-inside = executable-in-table t _ (reaches-executable t j _ (and-3 _ _ _ _ (rule-when t y.checked j (executes JSR) y.jsr passed)))

  -- exit 0: past them
  pub exit-past : (k : ℕ) → k ≡ 0 → exit_of t j k ≡ to_place (suc (j + declared t (callee t j)))
  unfolding exit_of
  exit-past k e = rw e refl

  -- exit k by its card
  module _ (k : ℕ) (counted : k ≤ declared t (callee t j)) (some : k ≡ 0 → ⊥) where
    card-by : (n : ℕ) → n ≤ declared t (callee t j) → (n ≡ 0 → ⊥) → exit_of t j n ≡ by_card t (j + n) (class_at t (j + n))
    unfolding exit_of
    card-by zero h s = absurd (s refl)
    card-by (suc n) h s =
        let e : suc (j + n) ≡ j + suc n = omega arith in
        if-true _ _ missing (le-ok (suc n) (declared t (callee t j)) h) ∙ ap (λ (q : ℕ). by_card t q (class_at t q)) e

    exit_by : (n : ℕ) → n ≤ declared t (callee t j) → (n ≡ 0 → ⊥) → Ok (is_exit (class_at t (j + n)))
    exit_by zero h s = absurd (s refl)
    exit_by (suc n) h s =
        let e : suc (j + n) ≡ j + suc n = omega arith in
        subst (λ (q : ℕ). Ok (is_exit (class_at t q))) e (exit-class t y.checked j n y.jsr h)

    pub card-inside : j + k < t at 0
    card-inside = omega (arith, exits-inside)

    here : class_at t (j + k) ≡ class_in (t at (8 + 8 * (j + k))) rows
    unfolding size
    here = class_of t (j + k) card-inside

    -- a PPM with a label, and one without
    ppm : t at (8 + 8 * (j + k)) ≡ 110 → exit_of t j k ≡ by_ppm (target1 t (j + k))
    ppm p = card-by k counted some ∙ rw (here ∙ marker-class PPM _ p) refl

    pub exit-label : t at (8 + 8 * (j + k)) ≡ 110 → t at (8 + 8 * (j + k) + 1) ≡ 6 → exit_of t j k ≡ to_place (t at (8 + 8 * (j + k) + 3))
    unfolding target1 field if
    exit-label p q = ppm p ∙ rw q refl

    pub exit-impossible : t at (8 + 8 * (j + k)) ≡ 110 → (t at (8 + 8 * (j + k) + 1) ≡ 6 → ⊥) → exit_of t j k ≡ impossible
    unfolding target1 field if
    exit-impossible p q = ppm p ∙ rw (ne_eqb _ 6 q) refl

    -- an ERR
    pub exit-errors : (t at (8 + 8 * (j + k)) ≡ 110 → ⊥) → exit_of t j k ≡ to_errors (t at (8 + 8 * (j + k) + 3))
    unfolding value field
    exit-errors p =
        ⊎_elim
        (λ h. absurd (p (marker-number PPM _ (subst (λ (c : Class). Ok (is c (marks PPM))) here h))))
        (λ h. card-by k counted some ∙ rw (is_eq (class_at t (j + k)) (marks ERR) h) refl)
        (or_cases _ _ (exit_by k counted some))

-- JSR at b
module _ {t l : List ℕ} {b : ℕ} (y : Stands t b 109) (w : Few l) where
  calls-here : Calls t (place_of b)
  calls-here = calls-of t (place_of b) y.checked (class-at JSR passed y)

  kind_is : t at (8 + 8 * place_of b + 1) ≡ t at (b + 1)
  kind_is = ap (λ (i : ℕ). t at (i + 1)) (sym y.starts)

  value-is : t at (8 + 8 * place_of b + 3) ≡ t at (b + 3)
  value-is = ap (λ (i : ℕ). t at (i + 3)) (sym y.starts)

  -- an EXP
  pub jsr-waits : t at (b + 1) ≡ 23 → AnyCore 20 l t b l JSR
  jsr-waits k = (λ c z m. rw (callee-external calls-here (kind_is ∙ k)) refl, refl)

  -- a procedure
  module _ (k : t at (b + 1) ≡ 23 → ⊥) where
    to-procedure : callee t (place_of b) ≡ procedure (t at (b + 3))
    to-procedure = callee-procedure calls-here (λ e. k (sym kind_is ∙ e)) ∙ ap procedure value-is

    pub jsr-few : t at (b + 3) < 1024
    jsr-few = omega (arith, procedure-few calls-here (λ e. k (sym kind_is ∙ e)), value-is, (header t y.checked).few)

    pub jsr-full : 256 ≤ l at 256 → AnyCore 27 l t b l JSR
    unfolding if
    jsr-full h = (λ c z m. rw (to-procedure, links-count l w, le-ltb _ _ h) refl, refl)

    pub jsr-opens : (n v : ℕ) → n ≡ l at 256 → n < 256 → v ≡ t at (b + 3) → AnyCore (8 * (v + 1) + 72) (set (set l n (b / 8 - 1)) 256 (l at 256 + 1)) t b l JSR
    unfolding if place_of
    jsr-opens n v e h q =
        let g : 8 * (v + 1) + 72 ≡ toward (suc (t at (b + 3))) = omega arith in
        let f : open_links (set (set l n (b / 8 - 1)) 256 (l at 256 + 1)) ≡ open_links l ++ (b / 8 - 1) ∷ [] =
        ap (λ (i : ℕ). open_links (set (set l n (b / 8 - 1)) 256 (i + 1))) (sym e) ∙ links-push l w n (b / 8 - 1) e h in (
          λ c z m. rw (to-procedure, links-count l w, lt-ltb _ _ (rw e at h), g, f) refl,
          length-set (set l n (b / 8 - 1)) 256 (l at 256 + 1) ∙ length-set l n (b / 8 - 1),
        )

-- the exits of the JSR at j, from the words z
module _ {t : List ℕ} {j : ℕ} (y : Calls t j) (k : ℕ) (counted : k ≤ declared t (callee t j)) (z : List ℕ) where
  after-place : (q : ℕ) (ls ls' : List Link) → links_after (toward q) ls ls' ≡ ls'
  unfolding links_after if
  after-place q ls ls' = rw (ne_eqb (toward q) 26 (λ e. omega arith)) refl

  sent-place : (q : ℕ) → exit_of t j k ≡ to_place q → TakesExit (toward q) z t j k z
  sent-place q e p w m ls ls' = rw (e, after-place q ls ls') refl

  pub takes-past : k ≡ 0 → (d : ℕ) → d ≡ declared t (callee t j) → TakesExit (8 * (j + d + 1) + 72) z t j k z
  takes-past e d q =
      let g : toward (suc (j + declared t (callee t j))) ≡ 8 * (j + d + 1) + 72 = omega arith in
      subst (λ (r : ℕ). TakesExit r z t j k z) g (sent-place (suc (j + declared t (callee t j))) (exit-past y k e))

  -- the code's index of the exit
  module _ (n : ℕ) (same : n ≡ k) (some : k ≡ 0 → ⊥) where
    pub exit-inside : (8 + 8 * (j + n) + 8 ≤ length t) × (j + n < 1024)
    exit-inside =
        let h = header t y.checked in
        (omega (arith, card-inside y k counted some, h.long), omega (arith, card-inside y k counted some, h.few))

    pub takes-label : t at (8 + 8 * (j + n)) ≡ 110 → t at (8 + 8 * (j + n) + 1) ≡ 6 → (r : ℕ) → r ≡ toward (t at (8 + 8 * (j + n) + 3)) → TakesExit r z t j k z
    takes-label h q r e =
        subst (λ (i : ℕ). TakesExit i z t j k z) (sym (rw same at e)) (sent-place _ (exit-label y k counted some (rw same at h) (rw same at q)))

    pub takes-impossible : t at (8 + 8 * (j + n)) ≡ 110 → (t at (8 + 8 * (j + n) + 1) ≡ 6 → ⊥) → TakesExit 26 z t j k z
    unfolding links_after if
    takes-impossible h q p w m ls ls' = rw (exit-impossible y k counted some (rw same at h) (rw same at q)) refl

    pub takes-errors : (t at (8 + 8 * (j + n)) ≡ 110 → ⊥) → (r : ℕ) → r ≡ toward (section6 t) → TakesExit r (set z 4 (t at (8 + 8 * (j + n) + 3))) t j k z
    takes-errors h r e p w m ls ls' =
        rw (exit-errors y k counted some (rw same at h), same, e, after-place (section6 t) ls ls') refl

-- EXI at b, under the youngest link
pub record Leaving (t l : List ℕ) (b : ℕ) : Type 0 where
  pub some : 0 < l at 256
  pub calls : Calls t (l at (l at 256 - 1))
  pub number : t at (b + 3) ≤ declared t (callee t (l at (l at 256 - 1)))

module _ {t l : List ℕ} {b : ℕ} (y : Stands t b 112) (w : Few l) (o : Open t b l) where
  few : length (open_links l) ≤ 256
  few = omega (arith, links-count l w, w.count)

  left : Rules.Leaves t y.checked (place_of b) (open_links l) few o.chained o.covered
  left = Rules.leaves t y.checked (place_of b) (open_links l) few o.chained o.covered (rule-at EXI passed y)

  some-open : 0 < l at 256
  some-open = links-some l left.jsr left.youngest

  youngest-is : left.jsr ≡ l at (l at 256 - 1)
  youngest-is = let e = sym left.youngest ∙ links-top l w some-open in omega arith

  pub leaving : Leaving t l b
  leaving = record {
    some = some-open;
    calls = subst (λ (j : ℕ). Calls t j) youngest-is (calls-of t left.jsr y.checked (calls-jsr t left.jsr left.prc left.opened-by).0);
    number = subst (λ (j : ℕ). t at (b + 3) ≤ declared t (callee t j)) youngest-is
        (subst (λ (v : ℕ). v ≤ declared t (callee t left.jsr)) (sym (value-at t b (place_of b) y.starts)) left.number);
  }

  -- what EXI shows, where j is the youngest link, v the number and l' the links that stay
  module _ (z z' : List ℕ) (r j v : ℕ) (young : j ≡ l at (l at 256 - 1)) (numbered : v ≡ t at (b + 3)) (x : TakesExit r z' t j v z) where
    exi-shows : (l' : List ℕ) → links_after r (open_links l) (init (open_links l)) ≡ open_links l' → length l' ≡ length l → Leaves r z' l' t b z l EXI
    exi-shows l' f g = (
      λ c m.
          rw (← f, links-top l w some-open, ← young, ← value-at t b (place_of b) y.starts, ← numbered)
          (x (place_of b) false m (open_links l) (init (open_links l))),
      g,
    )

    -- 26 keeps the link, every other answer drops it
    pub exi-keeps : r ≡ 26 → Leaves r z' l t b z l EXI
    unfolding links_after if
    exi-keeps e = exi-shows l (rw e refl) refl

    pub exi-drops : (k : ℕ) → k ≡ l at 256 - 1 → (r ≡ 26 → ⊥) → Leaves r z' (set l 256 k) t b z l EXI
    unfolding links_after if
    exi-drops k q e = exi-shows (set l 256 k) (rw (ne_eqb r 26 e) (sym (links-drop l w some-open k q))) (length-set l 256 k)

-- SSS
module _ {l : List ℕ} (w : Few l) (v : ℕ) where
  pub sss-above : l at 256 < v → leb v (length (open_links l)) ≡ false
  sss-above h = rw (links-count l w) (lt-leb _ _ h)

  pub sss-within : v ≤ l at 256 → leb v (length (open_links l)) ≡ true
  sss-within h = rw (links-count l w) (le-leb _ _ h)
