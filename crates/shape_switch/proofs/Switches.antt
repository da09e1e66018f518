-- Laws of a switch's list in the terms of the code: counted, closed, judged.
-- Assumes nothing.
use Prim.Native.Nat.{ℕ, suc, ◌+◌, ◌*◌}
use mathlib.Core.Path.{◌≡◌, refl, sym, ap, ◌∙◌}
use mathlib.Core.Bool.{false}
use mathlib.Core.List.{List}
use native.Mathlib.Omega.{arith}
use native.Mathlib.Numerals.{add-one}
use lib.Dec.{eqb}
use lib.ListN.{get_or}
use borrow.Author.Tests.{eq-eqb, ne_eqb}
use Rattle.base.specs.Test.{◌and◌}
use Rattle.ops.specs.Class.{class_code, is, marks, ESW}
use Rattle.rules.specs.Check.{distinct_iffs, switch_list, iffs}
use Rattle.rules.specs.Table.{size, class_at, field}
use Rattle.shape_core.specs.Counted.{list_ok}
use Rattle.shape_core.proofs.Codes.{is_code}
use Rattle.shape_core.proofs.Tests.{and_no, and_yes}

-- the list of the BSW at p, below which k IFFs stand, then a card of class c
module _ (t : List ℕ) (p k c : ℕ) (i : k ≡ iffs t (p + 1) (size t)) (e : c ≡ class_code (class_at t (p + 1 + k))) where
  listed : is (class_at t (suc (p + k))) (marks ESW) and distinct_iffs t (field t p 6) (suc p) k ≡ list_ok t p
  unfolding list_ok switch_list
  listed =
      let s : k ≡ iffs t (suc p) (size t) = i ∙ rw (add-one p) refl in
      ap (λ (x : ℕ). is (class_at t (suc (p + x))) (marks ESW) and distinct_iffs t (field t p 6) (suc p) x) s

  closed : is (class_at t (suc (p + k))) (marks ESW) ≡ eqb c 16
  closed =
      let z : p + 1 + k ≡ suc (p + k) = omega arith in is_code (class_at t (suc (p + k))) (marks ESW) c (e ∙ rw z refl)

  pub switch-open : (c ≡ 16 → ⊥) → false ≡ list_ok t p
  switch-open h = sym (and_no _ _ (closed ∙ ne_eqb _ _ h)) ∙ listed

  pub switch-closed : c ≡ 16 → {l : ℕ} → l ≡ get_or t (8 + 8 * p + 6) 0 → distinct_iffs t l (p + 1) k ≡ list_ok t p
  unfolding field
  switch-closed h f = rw (add-one p, f) (sym (and_yes _ _ (closed ∙ eq-eqb _ _ h)) ∙ listed)
