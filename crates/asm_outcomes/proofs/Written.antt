-- The forms that a card writes, by the texts of its operand field.
-- Assumes nothing.
use Prim.Native.Nat.{ℕ, zero, suc, ◌<◌}
use mathlib.Core.Path.{◌≡◌, refl, sym, ap, ◌∙◌}
use mathlib.Core.Bool.{Bool, true, false, not}
use mathlib.Core.List.{List, [], ◌∷◌, map}
use native.Mathlib.Omega.{arith}
use borrow.Author.Tests.{eq-eqb, ne_eqb}
use lib.Dec.{eqb}
use lib.ListN.{get_or, length}
use Rattle.base.specs.Test.{◌and◌, if}
use Rattle.language.specs.Text.{field_of}
use Rattle.language.specs.Operation.{DRC, Operation, formats_of, has_text, is_assembly}
use Rattle.language.specs.Form.{Form, all_formed, constant, difference, falling, first_of, form_by, formless, indexed, indirect, is_formless, literal, multiple, named, omitted, plain, procedure_type, real, register, rising, signed, star, sum, texts_in, written_forms}
use Rattle.language.specs.Fault.{first_name, form_name}
use Rattle.asm_types.specs.Views.{cut_form}

abbrev pub texts : List ℕ → List (List ℕ)
texts s = texts_in (field_of s)

-- the forms of a field, by the operation and the field that the code finds
module _ (b drc : Bool) (l f : List ℕ) (h : b ≡ drc) (k : l ≡ f) where
  pub form-read : (i : ℕ) → cut_form (get_or (map (form_by b) (texts_in l)) i formless) ≡ cut_form (get_or (map (form_by drc) (texts_in f)) i formless)
  form-read i = rw (h, k) refl

  pub formed-read : all_formed (map (form_by b) (texts_in l)) ≡ all_formed (map (form_by drc) (texts_in f))
  formed-read = rw (h, k) refl

pub length-forms : (drc : Bool) (ts : List (List ℕ)) → length (map (form_by drc) ts) ≡ length ts
length-forms drc [] = refl
length-forms drc (t ∷ ts) = ap suc (length-forms drc ts)

-- the first of some texts alone
pub first-none : (drc : Bool) (ts : List (List ℕ)) → length ts ≡ 0 → map (form_by drc) (first_of ts) ≡ []
first-none drc [] h = refl
first-none drc (t ∷ ts) h = absurd (omega arith)

pub first_some : (drc : Bool) (ts : List (List ℕ)) → (length ts ≡ 0 → ⊥) → map (form_by drc) (first_of ts) ≡ get_or (map (form_by drc) ts) 0 formless ∷ []
first_some drc [] h = absurd (h refl)
first_some drc (t ∷ ts) h = refl

-- a form that is written is that of the field's text
first-at : (drc : Bool) (ts : List (List ℕ)) (i : ℕ) → i < length (map (form_by drc) (first_of ts))
    → get_or (map (form_by drc) (first_of ts)) i formless ≡ get_or (map (form_by drc) ts) i formless
first-at drc [] i h = refl
first-at drc (t ∷ ts) zero h = refl
first-at drc (t ∷ ts) (suc i) h = absurd (omega arith)

pub written_at : (o : Operation) (s : List ℕ) (i : ℕ) → i < length (written_forms o s)
    → get_or (written_forms o s) i formless ≡ get_or (map (form_by (is_assembly DRC o)) (texts s)) i formless
unfolding written_forms if
written_at o s i h = go (eqb (length (formats_of o)) 0) (has_text o) h
  where
    go : (a b : Bool) → i < length (if a [] (if b (map (form_by (is_assembly DRC o)) (first_of (texts s))) (map (form_by (is_assembly DRC o)) (texts s))))
        → get_or (if a [] (if b (map (form_by (is_assembly DRC o)) (first_of (texts s))) (map (form_by (is_assembly DRC o)) (texts s)))) i formless ≡ get_or (map (form_by (is_assembly DRC o)) (texts s)) i formless
    go true b k = absurd (omega arith)
    go false true k = first-at (is_assembly DRC o) (texts s) i k
    go false false k = refl

-- none where the operation has no formats, the first alone where it has a text, else all
module _ (o : Operation) (s : List ℕ) where
  pub none_written : length (formats_of o) ≡ 0 → written_forms o s ≡ []
  unfolding written_forms if
  none_written h = rw (eq-eqb (length (formats_of o)) 0 h) refl

  module _ (h : length (formats_of o) ≡ 0 → ⊥) where
    pub all-written : has_text o ≡ false → written_forms o s ≡ map (form_by (is_assembly DRC o)) (texts s)
    unfolding written_forms if
    all-written e = rw (ne_eqb (length (formats_of o)) 0 h, e) refl

    pub first-written : has_text o ≡ true → written_forms o s ≡ map (form_by (is_assembly DRC o)) (first_of (texts s))
    unfolding written_forms if
    first-written e = rw (ne_eqb (length (formats_of o)) 0 h, e) refl

-- a form with its numbers cut off: that it is one, and its name
pub cut-formless : (o : Form) → is_formless (cut_form o) ≡ is_formless o
cut-formless formless = refl
cut-formless omitted = refl
cut-formless star = refl
cut-formless real = refl
cut-formless (plain v) = refl
cut-formless (register r) = refl
cut-formless (literal k) = refl
cut-formless (multiple k) = refl
cut-formless (indirect r) = refl
cut-formless (rising r) = refl
cut-formless (falling r) = refl
cut-formless (procedure_type b) = refl
cut-formless (indexed v r) = refl
cut-formless (sum v w) = refl
cut-formless (difference v w) = refl
cut-formless (signed b n) = refl

cut-name : (o : Form) → form_name (cut_form o) ≡ form_name o
cut-name formless = refl
cut-name omitted = refl
cut-name star = refl
cut-name real = refl
cut-name (plain (constant n)) = refl
cut-name (plain (named k)) = refl
cut-name (register r) = refl
cut-name (literal k) = refl
cut-name (multiple k) = refl
cut-name (indirect r) = refl
cut-name (rising r) = refl
cut-name (falling r) = refl
cut-name (procedure_type b) = refl
cut-name (indexed v r) = refl
cut-name (sum v w) = refl
cut-name (difference v w) = refl
cut-name (signed b n) = refl

first-named : (os : List Form) → first_name os ≡ form_name (get_or os 0 formless)
first-named [] = refl
first-named (o ∷ os) = refl

-- the name of the first, as the code finds its form
pub written-name : (o : Operation) (s : List ℕ) → 0 < length (written_forms o s) → (v : Form)
    → v ≡ cut_form (get_or (map (form_by (is_assembly DRC o)) (texts s)) 0 formless) → form_name v ≡ first_name (written_forms o s)
written-name o s h v e =
    ap form_name e
    ∙ cut-name (get_or (map (form_by (is_assembly DRC o)) (texts s)) 0 formless)
    ∙ ap form_name (sym (written_at o s 0 h))
    ∙ sym (first-named (written_forms o s))

pub unwritten-name : (os : List Form) → length os ≡ 0 → 0 ≡ first_name os
unwritten-name [] h = refl
unwritten-name (o ∷ os) h = absurd (omega arith)

pub one-formed : (o : Form) → all_formed (o ∷ []) ≡ not (is_formless o)
unfolding ◌and◌
one-formed o = go (not (is_formless o))
  where
    go : (b : Bool) → (b and true) ≡ b
    go true = refl
    go false = refl
