-- The texts of an operand field by place: their number, the text at an index, a test of all.
-- Assumes nothing.
use Prim.Native.Nat.{ℕ, zero, suc, ◌+◌, ◌-◌, ◌<◌, ◌≤◌}
use mathlib.Core.Path.{◌≡◌, refl, sym, ap, ◌∙◌}
use mathlib.Core.Bool.{Bool, true, false}
use mathlib.Core.List.{List, [], ◌∷◌, map}
use native.Mathlib.Numerals.{add-one}
use native.Mathlib.Omega.{arith}
use lib.Dec.{eqb}
use lib.ListN.{drop, drop_of_length-le, get_or, length, take}
use lib.Seq.{drop-cons}
use Rattle.base.specs.Test.{◌and◌, if}
use Rattle.base.specs.Lists.{◌at◌}
use Rattle.language.specs.Text.{byte, parts, push, span}
use Rattle.language.specs.Decimal.{decimal_of, unwritten, written}
use Rattle.language.specs.Form.{Form, all_formed, difference, falling, form_by, form_of, formless, indexed, indirect, is_formless, literal, multiple, omitted, plain, procedure_type, real, register, rising, signed, star, sum, texts_in}
use Rattle.language.proofs.Laws.{before, parts_first}
use Rattle.asm_types.specs.Views.{cut_form}
use Rattle.asm_text.proofs.Slices.{parts_last, parts_more}

abbrev pub comma : ℕ
comma = byte ","

-- a field that is not empty has the texts that commas divide
pub texts-long : (f : List ℕ) → (length f ≡ 0 → ⊥) → parts comma f ≡ texts_in f
unfolding texts_in
texts-long [] h = absurd (h refl)
texts-long (b ∷ bs) h = refl

pub texts-none : (f : List ℕ) → length f ≡ 0 → texts_in f ≡ []
unfolding texts_in
texts-none [] h = refl
texts-none (b ∷ bs) h = absurd (omega arith)

-- the number of parts: one more at a comma
length_push : (b : ℕ) (ls : List (List ℕ)) → 0 < length ls → length (push b ls) ≡ length ls
length_push b [] h = absurd (omega arith)
length_push b (l ∷ ls) h = refl

some-parts : (d : ℕ) (s : List ℕ) → 0 < length (parts d s)
unfolding parts if
some-parts d [] = omega arith
some-parts d (b ∷ bs) = go (eqb b d) (some-parts d bs)
  where
    go : (t : Bool) → 0 < length (parts d bs) → 0 < length (if t ([] ∷ parts d bs) (push b (parts d bs)))
    go true h = omega arith
    go false h = omega (arith, length_push b (parts d bs) h)

pub count-step : (d : ℕ) (s : List ℕ) (i : ℕ) → i < length s
    → length (parts d (drop i s)) ≡ if (eqb (s at i) d) 1 0 + length (parts d (drop (i + 1) s))
unfolding parts if
count-step d s i h =
    let a : drop (i + 1) s ≡ drop (suc i) s = rw add-one refl in
    rw (a, drop-cons s i 0 h) (go (eqb (s at i) d))
  where
    go : (t : Bool) → length (if t ([] ∷ parts d (drop (suc i) s)) (push (s at i) (parts d (drop (suc i) s))))
        ≡ if t 1 0 + length (parts d (drop (suc i) s))
    go true = omega arith
    go false = omega (arith, length_push (s at i) (parts d (drop (suc i) s)) (some-parts d (drop (suc i) s)))

pub count-out : (d : ℕ) (s : List ℕ) (i : ℕ) → length s ≤ i → length (parts d (drop i s)) ≡ 1
unfolding parts
count-out d s i h = let e : drop i s ≡ [] = drop_of_length-le s {i = i} h in rw e refl

-- the form of a text on a DRC card and on another
pub of_others : (drc : Bool) (s : List ℕ) → drc ≡ false → form_of s ≡ form_by drc s
of_others drc s h = rw h refl

module _ (drc : Bool) (s : List ℕ) (h : drc ≡ true) where
  pub no-real : unwritten ≡ decimal_of s → formless ≡ cut_form (form_by drc s)
  no-real e = rw (h, ← e) refl

  pub of-real : {b : Bool} {n k : ℕ} → written b n k ≡ decimal_of s → real ≡ cut_form (form_by drc s)
  of-real e = rw (h, ← e) refl

-- the form at index k among the parts from a place on, where the first of them ends at e
abbrev pub form_from : Bool → List ℕ → ℕ → ℕ → Form
form_from drc f i k = get_or (map (form_by drc) (parts comma (drop i f))) k formless

module _ (drc : Bool) (f : List ℕ) (i e : ℕ) (q : e ≡ i + span (before comma) (drop i f)) (h : i ≤ length f) where
  pub first-form : form_from drc f i 0 ≡ form_by drc (take (e - i) (drop i f))
  first-form =
      let k : e - i ≡ span (before comma) (drop i f) = omega arith in
      rw (parts_first comma (drop i f), k) refl

  pub next-form : (k : ℕ) → 0 < k → e < length f → form_from drc f (e + 1) (k - 1) ≡ form_from drc f i k
  next-form zero z l = absurd (omega arith)
  next-form (suc k) z l =
      let m : suc k - 1 ≡ k = omega arith in
      rw (m, parts_more comma f i e q h l) refl

  pub past-forms : (k : ℕ) → 0 < k → length f ≤ e → formless ≡ form_from drc f i k
  past-forms zero z l = absurd (omega arith)
  past-forms (suc k) z l = rw (parts_last comma f i e q h l) refl

-- that all of them have a form
abbrev pub formed_from : Bool → List ℕ → ℕ → Bool
formed_from drc f i = all_formed (map (form_by drc) (parts comma (drop i f)))

cut-formless : (o : Form) → is_formless (cut_form o) ≡ is_formless o
cut-formless formless = refl
cut-formless omitted = refl
cut-formless star = refl
cut-formless real = refl
cut-formless (plain v) = refl
cut-formless (register r) = refl
cut-formless (literal k) = refl
cut-formless (multiple k) = refl
cut-formless (indirect r) = refl
cut-formless (rising r) = refl
cut-formless (falling r) = refl
cut-formless (procedure_type b) = refl
cut-formless (indexed v r) = refl
cut-formless (sum v w) = refl
cut-formless (difference v w) = refl
cut-formless (signed b n) = refl

-- the test of the first text, as the code sees its form
module _ (drc : Bool) (f : List ℕ) (i e : ℕ) (q : e ≡ i + span (before comma) (drop i f)) (h : i ≤ length f) (o : Form)
    (x : o ≡ cut_form (form_by drc (take (e - i) (drop i f)))) where
  first-formless : is_formless o ≡ is_formless (form_by drc (take (e - i) (drop i f)))
  first-formless = ap is_formless x ∙ cut-formless (form_by drc (take (e - i) (drop i f)))

  pub formless-text : is_formless o ≡ true → false ≡ formed_from drc f i
  unfolding ◌and◌
  formless-text t =
      let k : e - i ≡ span (before comma) (drop i f) = omega arith in
      rw (parts_first comma (drop i f), ← k, sym first-formless ∙ t) refl

  pub formed-last : is_formless o ≡ false → length f ≤ e → true ≡ formed_from drc f i
  unfolding ◌and◌
  formed-last t l = rw (parts_last comma f i e q h l, sym first-formless ∙ t) refl

  pub formed-more : is_formless o ≡ false → e < length f → formed_from drc f (e + 1) ≡ formed_from drc f i
  unfolding ◌and◌
  formed-more t l = rw (parts_more comma f i e q h l, sym first-formless ∙ t) refl
