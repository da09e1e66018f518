-- Whether a line has an operand field, and a DTC line a text, by place.
-- Assumes nothing.
use Prim.Native.Nat.{ℕ, ◌-◌}
use mathlib.Core.Path.{◌≡◌, refl, sym, ap, ◌∙◌}
use mathlib.Core.Bool.{Bool, true, false}
use mathlib.Core.List.{List}
use native.Mathlib.Omega.{arith}
use borrow.Author.Tests.{eq-eqb, eqb-false, eqb-true, ne_eqb}
use lib.Dec.{eqb}
use lib.ListN.{drop, length, length-drop, take}
use lib.Seq.{length-take-le}
use Rattle.language.specs.Text.{operand_start, tail_of}
use Rattle.language.specs.Form.{quoted}
use Rattle.asm_text.specs.Placed.{FieldsOf}
use Rattle.asm_text.specs.declared.Fields.{Fields}
use Rattle.asm_forms.specs.Quotes.{Quotes}
use Rattle.asm_forms.specs.declared.texts.Span.{Span}

-- two tests of numbers that hold together
same_test : (a b x y : ℕ) → (a ≡ b → x ≡ y) → (x ≡ y → a ≡ b) → eqb a b ≡ eqb x y
same_test a b x y f g = go (eqb a b) refl
  where
    go : (t : Bool) → eqb a b ≡ t → t ≡ eqb x y
    go true e = sym (eq-eqb x y (f (eqb-true a b e)))
    go false e = sym (ne_eqb x y (λ q. eqb-false a b e (g q)))

pub no-tail : (s : List ℕ) (f : Fields) → FieldsOf s f → eqb f.operand_start (length s) ≡ eqb (length (tail_of s)) 0
unfolding tail_of
no-tail s f v =
    let n : length (drop (operand_start s) s) ≡ length s - operand_start s = length-drop (operand_start s) s in
    same_test f.operand_start (length s) (length (drop (operand_start s) s)) 0
    (λ e. omega (arith, n, v.operand_start_is)) (λ e. omega (arith, n, v.operand_start_is, v.field_le, v.end_le))

pub no_text : (s : List ℕ) (q : Span) → Quotes s q → eqb q.from q.to ≡ eqb (length (quoted s)) 0
no_text s q v =
    let m : length (take (q.to - q.from) (drop q.from s)) ≡ q.to - q.from =
    length-take-le (q.to - q.from) (drop q.from s) (omega (arith, length-drop q.from s, v.to_le)) in
    let n : q.to - q.from ≡ length (quoted s) = sym m ∙ ap length v.text in
    same_test q.from q.to (length (quoted s)) 0 (λ e. omega (arith, n)) (λ e. omega (arith, n, v.from_le))
