-- The switch: the walk over the IFFs of a BSW, in the terms of the code.
-- Assumes nothing.
use Prim.Native.Nat.{ℕ, zero, suc, ◌+◌, ◌<◌, ◌≤◌}
use mathlib.Core.Path.{◌≡◌, refl, sym, ap, subst, ◌∙◌}
use mathlib.Core.Bool.{Bool, true, false}
use mathlib.Core.List.{List}
use native.Mathlib.Omega.{arith}
use lib.ListN.{length}
use borrow.Author.Tests.{eq-eqb, ne_eqb}
use Rattle.base.specs.Test.{Ok, if}
use Rattle.base.specs.Lists.{◌at◌}
use Rattle.base.proofs.Bool.{and-2, and_l, failed, passed}
use Rattle.ops.specs.Class.{BSW, Class, ESW, IFF, executes, is, marks}
use Rattle.ops.specs.Ops.{class_in, reads, rows}
use Rattle.ops.proofs.Classes.{is_eq}
use Rattle.rules.specs.Table.{class_at, entry_at, field, size, target2, target3, value}
use Rattle.rules.specs.Check.{iffs, must_reach, switch_list, table_ok}
use Rattle.rules.specs.Control.{choose, chosen, halt, unlisted}
use Rattle.rules.specs.Effect.{done}
use Rattle.rules.specs.Exec.{tells}
use Rattle.rules.specs.Number.{no_case}
use Rattle.rules.specs.Operand.{given}
use Rattle.rules.proofs.Facts.{in_table, rule-when}
use Rattle.bodies.proofs.Numbers.{marker-class, marker-number}
use Rattle.bodies.proofs.Places.{class_of}
use Rattle.exec_core.specs.Entry.{going, in_register, readable}
use Rattle.exec_core.specs.Seen.{place_of, seen, state_by}
use Rattle.exec_core.specs.Views.{operand_at, toward, way_of}
use Rattle.exec_core.proofs.Laws.{fetch-register, moved-register}
use Rattle.exec_calls.specs.Stands.{Stands}
use Rattle.exec_control.specs.Shows.{AnyMemory}
use Rattle.exec_calls.proofs.Places.{place-long}
use Rattle.exec_control.proofs.Jumps.{entry-bare, jumps-or, register-at, third_at, third-way}
use Rattle.exec_control.proofs.Takes.{bsw-takes}

-- the walk of the BSW at p for the value v stands at the offset i
pub record Walks (t : List ℕ) (p v i : ℕ) : Type 0 where
  pub place : ℕ
  pub rest : ℕ
  pub starts : i ≡ entry_at place
  pub same : choose t v (suc p) (size t) ≡ choose t v place rest
  pub ends : place + iffs t place rest ≡ suc (p + iffs t (suc p) (size t))

module _ (t : List ℕ) (p : ℕ) (ok : Ok (table_ok t)) (e : class_at t p ≡ executes BSW) where
  -- an ESW closes the IFFs
  closed : class_at t (suc (p + iffs t (suc p) (size t))) ≡ marks ESW
  unfolding switch_list
  closed = is_eq _ _ (and_l _ _ (and_l _ _ (rule-when t ok p (executes BSW) e passed)))

  pub walk_start : (v b : ℕ) → b ≡ entry_at p → Walks t p v (b + 8)
  walk_start v b h = record { place = suc p; rest = size t; starts = omega arith; same = refl; ends = omega arith }

  module _ (v i : ℕ) (w : Walks t p v i) where
    pub walk_inside : w.place < size t
    walk_inside =
        let c : suc (p + iffs t (suc p) (size t)) < size t = in_table t _ (rw closed passed) in
        omega (arith, w.ends)

    pub walk-long : (i + 8 ≤ length t) × (i < 8200)
    walk-long = let l = place-long t w.place ok walk_inside in (omega (arith, w.starts, l.0), omega (arith, w.starts, l.1))

    here : class_at t w.place ≡ class_in (t at i) rows
    here = class_of t w.place walk_inside ∙ ap (λ (x : ℕ). class_in (t at x) rows) (sym w.starts)

    -- no IFF: none has the value
    missed : (k : ℕ) → (is (class_at t w.place) (marks IFF) ≡ false) → choose t v w.place k ≡ unlisted
    unfolding choose if
    missed zero h = refl
    missed (suc k) h = rw h refl

    not_iff : (t at i ≡ 104 → ⊥) → is (class_at t w.place) (marks IFF) ≡ false
    not_iff h = no _ (λ o. h (marker-number IFF (t at i) (subst (λ (c : Class). Ok (is c (marks IFF))) here o)))
      where
        no : (b : Bool) → (Ok b → ⊥) → b ≡ false
        no true g = absurd (g passed)
        no false g = refl

    pub walk-missed : (t at i ≡ 104 → ⊥) → choose t v (suc p) (size t) ≡ unlisted
    walk-missed h = w.same ∙ missed w.rest (not_iff h)

    -- an IFF
    module _ (iff : t at i ≡ 104) where
      is-iff : class_at t w.place ≡ marks IFF
      is-iff = here ∙ marker-class IFF (t at i) iff

      -- the walk is not at its end
      more : (k : ℕ) → w.place + iffs t w.place k ≡ suc (p + iffs t (suc p) (size t)) → 0 < k
      unfolding iffs
      more zero h =
          let z : w.place ≡ suc (p + iffs t (suc p) (size t)) = omega arith in
          absurd (failed (subst (λ (c : Class). Ok (is c (marks ESW))) is-iff (subst (λ (q : ℕ). Ok (is (class_at t q) (marks ESW))) (sym z) (rw closed passed))))
      more (suc k) h = omega arith

      value-is : value t w.place ≡ t at (i + 3)
      unfolding value field
      value-is = ap (λ (x : ℕ). t at (x + 3)) (sym w.starts)

      hit-by : (k : ℕ) → 0 < k → t at (i + 3) ≡ v → choose t v w.place k ≡ chosen (target2 t w.place)
      unfolding choose if
      hit-by zero h q = absurd (omega arith)
      hit-by (suc k) h q = rw (is-iff, value-is, eq-eqb _ _ q) refl

      target-by : (x : ℕ) → Ok (must_reach t w.place x) → 0 < x
      target-by zero h = absurd (failed h)
      target-by (suc q) h = omega arith

      target_is : (k : Bool) (a x : ℕ) → 0 < if k (suc a) 0 → x ≡ a → if k (suc a) 0 ≡ suc x
      unfolding if
      target_is true a x h q = ap suc (sym q)
      target_is false a x h q = absurd (omega arith)

      -- the IFF of the value: its place operand
      pub walk-hit : t at (i + 3) ≡ v → choose t v (suc p) (size t) ≡ chosen (suc (t at (i + 6)))
      unfolding target2 field
      walk-hit q =
          w.same ∙ hit-by w.rest (more w.rest w.ends) q
          ∙ ap chosen
          (target_is _ _ (t at (i + 6)) (target-by (target2 t w.place) (and-2 _ _ _ (rule-when t ok w.place (marks IFF) is-iff passed)))
          (ap (λ (x : ℕ). t at (x + 6)) w.starts))

      choose-next : (k : ℕ) → 0 < k → (t at (i + 3) ≡ v → ⊥) → (l : ℕ) → k ≡ suc l → choose t v w.place k ≡ choose t v (suc w.place) l
      unfolding choose if
      choose-next k h q l g = rw (g, is-iff, value-is, ne_eqb _ _ q) refl

      iffs-next : (k l : ℕ) → k ≡ suc l → iffs t w.place k ≡ suc (iffs t (suc w.place) l)
      unfolding iffs if
      iffs-next k l g = rw (g, is-iff) refl

      go_on : (k : ℕ) → w.rest ≡ k → (t at (i + 3) ≡ v → ⊥) → Walks t p v (i + 8)
      go_on zero g q = absurd (omega (arith, more w.rest w.ends))
      go_on (suc l) g q = record {
        place = suc w.place;
        rest = l;
        starts = omega (arith, w.starts);
        same = w.same ∙ choose-next w.rest (more w.rest w.ends) q l g;
        ends = omega (arith, w.ends, iffs-next w.rest l g);
      }

      -- another value: on to the next
      pub walk-next : (t at (i + 3) ≡ v → ⊥) → Walks t p v (i + 8)
      walk-next q = go_on w.rest refl q

-- the BSW at b, whose register holds v
module _ {t : List ℕ} {b : ℕ} (y : Stands t b 103) (z : List ℕ) (x : ℕ) (reg : x ≡ t at (b + 2)) where
  read : (m : List ℕ) → tells z m (operand_at t (b + 1)) (λ v. v) ≡ done z m (z at x)
  unfolding tells given
  read m =
      let s = (entry-bare y in_register readable going bsw-takes).one in
      rw (fetch-register z m _ s, moved-register 4 z _ s, register-at t b, ← reg) refl

  pub bsw-hit : (q : ℕ) → choose t (z at x) (suc (place_of b)) (size t) ≡ chosen (suc q) → (r : ℕ) → r ≡ toward q → AnyMemory r z t b z BSW reads
  bsw-hit q h r e c m ls = rw (read m, h, e) refl

  pub bsw-none : choose t (z at x) (suc (place_of b)) (size t) ≡ unlisted → t at (b + 7) ≡ 0 → AnyMemory 25 z t b z BSW reads
  unfolding target3 field
  bsw-none h k c m ls = rw (read m, h, ← y.starts, k) refl

  pub bsw-default : choose t (z at x) (suc (place_of b)) (size t) ≡ unlisted → (t at (b + 7) ≡ 0 → ⊥) → (r : ℕ) → r ≡ way_of t b 3 → AnyMemory r z t b z BSW reads
  bsw-default h k r e c m ls =
      rw (read m, h)
      (ap (λ (i : ℕ). seen i z m ls) (e ∙ third-way t b (place_of b) y.starts)
      ∙ jumps-or t (state_by b z m ls) z m ls (halt no_case) b (target3 t (place_of b)) (positive (target3 t (place_of b)) there))
    where
      positive : (n : ℕ) → (n ≡ 0 → ⊥) → 0 < n
      positive zero g = absurd (g refl)
      positive (suc n) g = omega arith

      there : target3 t (place_of b) ≡ 0 → ⊥
      there g = k (third_at t b (place_of b) y.starts ∙ g)
