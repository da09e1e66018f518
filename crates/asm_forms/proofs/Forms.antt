-- Forms made of what was read, cut off: where it was read, and where it was not.
-- Assumes nothing.
use Prim.Native.Nat.{ℕ, ◌-◌, ◌≤◌}
use mathlib.Core.Path.{◌≡◌, refl, sym, ap, subst, ◌∙◌}
use mathlib.Core.Bool.{Bool, true, false}
use mathlib.Core.List.{List, [], ◌∷◌}
use native.Mathlib.Omega.{arith}
use borrow.Author.Tests.{ne_eqb}
use lib.ListN.{drop, length, take}
use Rattle.base.specs.Test.{◌or◌, if}
use Rattle.base.proofs.Bool.{by-if}
use Rattle.ops.specs.Machine.{XS}
use Rattle.language.specs.Text.{Parsed, byte, only_index, parsed, parsed_or, register_of, unparsed}
use Rattle.language.specs.Form.{Form, Term, before_sign, combined, constant, form_or, formless, index_in, marked_form, named, signed, term_or}
use Rattle.asm_types.specs.Views.{cut_form, cut_parsed, cut_term}
use Rattle.asm_text.proofs.Slices.{front, rest}
use Rattle.asm_names.proofs.Registers.{index-le}
use Rattle.asm_forms.specs.Terms.{Read, cut_read, read, read_of, unread}

-- what a function found in a part of a text, said of the part from a place on, and of that up to a place
module _ {A : Type 0} (f : List ℕ → A) (s : List ℕ) (i : ℕ) {x : A} where
  pub on-rest : x ≡ f (take (length s - i) (drop i s)) → f (drop i s) ≡ x
  on-rest e = sym (e ∙ ap f (rest s i))

  pub on-front : x ≡ f (take (i - 0) (drop 0 s)) → f (take i s) ≡ x
  on-front e = sym (e ∙ ap f (front s i))

-- two readings that differ
abbrev is_read : Read → ℕ
is_read (read v) = 1
is_read unread = 0

abbrev is_number : Parsed → ℕ
is_number (parsed n) = 1
is_number unparsed = 0

abbrev term_from : Read → Term → Term
term_from (read v) d = v
term_from unread d = d

-- no term was read: neither a symbol nor a number
pub no_symbol : (k n : Parsed) → cut_read (read_of k n) ≡ unread → k ≡ unparsed
no_symbol (parsed k) n e = let z : ◌≡◌ {A = ℕ} 1 0 = ap is_read e in absurd (omega arith)
no_symbol unparsed n e = refl

pub no_number : (k n : Parsed) → cut_read (read_of k n) ≡ unread → n ≡ unparsed
no_number (parsed k) n e = let z : ◌≡◌ {A = ℕ} 1 0 = ap is_read e in absurd (omega arith)
no_number unparsed (parsed n) e = let z : ◌≡◌ {A = ℕ} 1 0 = ap is_read e in absurd (omega arith)
no_number unparsed unparsed e = refl

-- a term was read, and a form is made of it
pub with-term : (k n : Parsed) (v : Term) (f g : Term → Form) (d : Form) → ((w : Term) → g (cut_term w) ≡ cut_form (f w))
    → cut_read (read_of k n) ≡ read v → g v ≡ cut_form (term_or k n f d)
with-term (parsed k) n v f g d h e = ap g (sym (ap (λ (r : Read). term_from r v) e)) ∙ h (named k)
with-term unparsed (parsed n) v f g d h e = ap g (sym (ap (λ (r : Read). term_from r v) e)) ∙ h (constant n)
with-term unparsed unparsed v f g d h e = let z : ◌≡◌ {A = ℕ} 0 1 = ap is_read e in absurd (omega arith)

-- the number that was read, as a term
pub number_read : (p : Parsed) (n : ℕ) → cut_parsed p ≡ parsed n → read (constant n) ≡ cut_read (read_of unparsed p)
number_read (parsed m) n e = ap (λ (q : Parsed). read (constant (parsed_or q 0))) (sym e)
number_read unparsed n e = let z : ◌≡◌ {A = ℕ} 0 1 = ap is_number e in absurd (omega arith)

-- a number was read, or not
pub no_cut : (p : Parsed) → cut_parsed p ≡ unparsed → p ≡ unparsed
no_cut (parsed n) e = let z : ◌≡◌ {A = ℕ} 1 0 = ap is_number e in absurd (omega arith)
no_cut unparsed e = refl

pub with_number : (p : Parsed) (n : ℕ) (b : Bool) (d : Form) → cut_parsed p ≡ parsed n → signed b n ≡ cut_form (form_or p (λ m. signed b m) d)
with_number (parsed m) n b d e = ap (signed b) (sym (ap (λ (q : Parsed). parsed_or q 0) e))
with_number unparsed n b d e = let z : ◌≡◌ {A = ℕ} 0 1 = ap is_number e in absurd (omega arith)

-- a sum or a difference
pub cut-combined : (b : Bool) (v w : Term) → combined b (cut_term v) (cut_term w) ≡ cut_form (combined b v w)
cut-combined true v w = refl
cut-combined false v w = refl

pub combined-read : (k n k' n' : Parsed) (b : Bool) (v w : Term) → cut_read (read_of k n) ≡ read v → cut_read (read_of k' n') ≡ read w
    → combined b v w ≡ cut_form (term_or k n (λ u. term_or k' n' (λ x. combined b u x) formless) formless)
combined-read k n k' n' b v w e e' =
    with-term k n v (λ u. term_or k' n' (λ x. combined b u x) formless) (λ u. combined b u w) formless
    (λ u. with-term k' n' w (λ x. combined b u x) (λ x. combined b (cut_term u) x) formless (λ x. cut-combined b u x) e') e

-- tests of a sign
pub sign-plus : (b : ℕ) → b ≡ byte "+" → before_sign b ≡ false
unfolding ◌or◌
sign-plus b e = rw e refl

pub sign-minus : (b : ℕ) → b ≡ byte "-" → before_sign b ≡ false
unfolding ◌or◌
sign-minus b e = rw e refl

pub no_sign : (b : ℕ) → (b ≡ byte "+" → ⊥) → (b ≡ byte "-" → ⊥) → before_sign b ≡ true
unfolding ◌or◌
no_sign b e e' = rw (ne_eqb b (byte "+") e, ne_eqb b (byte "-") e') refl

-- an index register between parentheses
pub index-in-le : (s : List ℕ) (n r : ℕ) → index_in s n ≡ parsed r → r ≤ 6
index-in-le s n r e =
    subst (λ (p : Parsed). parsed_or p 0 ≤ 6) e
    (by-if (λ (p : Parsed). parsed_or p 0 ≤ 6) _ _ _ (λ q. only (only_index (register_of (take 2 (drop 1 s)))) (index-le (register_of (take 2 (drop 1 s)))))
    (λ q. omega arith))
  where
    only : (p : Parsed) → ((m : ℕ) → p ≡ parsed m → m ≤ XS) → parsed_or p 0 ≤ 6
    only (parsed m) h = omega (arith, h m refl)
    only unparsed h = omega arith

-- an empty text is formless
pub marked-none : (s : List ℕ) → length s ≡ 0 → formless ≡ cut_form (marked_form s)
unfolding marked_form if ◌or◌
marked-none [] h = refl
marked-none (b ∷ bs) h = absurd (omega arith)
