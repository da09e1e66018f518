-- The text of a DTC line by place: the delimiter is at p, and the text ends at e.
-- Assumes nothing.
use Prim.Native.Nat.{ℕ, suc, ◌+◌, ◌-◌, ◌<◌, ◌≤◌}
use mathlib.Core.Path.{◌≡◌, refl, sym, ap, ◌∙◌}
use mathlib.Core.List.{List, [], ◌∷◌}
use native.Mathlib.Numerals.{add-one}
use native.Mathlib.Omega.{arith}
use borrow.Author.Tests.{eq-eqb, ne_eqb, lt-ltb, le-ltb}
use lib.ListN.{drop, drop_of_length-le, length, length-drop, take}
use lib.Seq.{drop-cons, get_or-drop}
use Rattle.base.specs.Test.{◌and◌, ◌or◌, if}
use Rattle.base.specs.Lists.{◌at◌}
use Rattle.language.specs.Text.{blank, operand_start, span, tail_of}
use Rattle.asm_text.specs.Placed.{FieldsOf}
use Rattle.asm_text.specs.declared.Fields.{Fields}
use Rattle.language.specs.Form.{before_byte, delimited_by, quoted}

-- an operand field that does not begin at the end of the line
pub before-end : (s : List ℕ) (f : Fields) → FieldsOf s f → (f.operand_start ≡ length s → ⊥) → f.operand_start < length s
before-end s f v h = omega (arith, v.field_le, v.end_le)

pub none-quoted : (s : List ℕ) (p : ℕ) → p ≡ operand_start s → length s ≤ p → [] ≡ quoted s
unfolding quoted tail_of
none-quoted s p a h =
    let d : drop p s ≡ [] = drop_of_length-le s {i = p} h in
    let d' : drop (operand_start s) s ≡ [] = ap (λ (n : ℕ). drop n s) (sym a) ∙ d in
    rw d' refl

module _ (s : List ℕ) (p e : ℕ) (a : p ≡ operand_start s) (h : p < length s)
    (q : e ≡ p + 1 + span (before_byte (s at p)) (drop (p + 1) s)) where
  abbrev behind : List ℕ
  behind = drop (suc p) s

  abbrev n : ℕ
  n = span (before_byte (s at p)) behind

  next : drop (p + 1) s ≡ behind
  next = rw add-one refl

  ends : e ≡ suc p + n
  ends =
      let r : span (before_byte (s at p)) (drop (p + 1) s) ≡ n = ap (span (before_byte (s at p))) next in
      omega arith

  split : quoted s ≡ delimited_by (s at p) behind
  unfolding quoted tail_of
  split =
      let d : drop (operand_start s) s ≡ s at p ∷ behind = ap (λ (k : ℕ). drop k s) (sym a) ∙ drop-cons s p 0 h in
      rw d refl

  -- the byte behind the second delimiter
  after : behind at suc n ≡ s at (e + 1)
  after =
      let k : suc p + suc n ≡ e + 1 = omega (arith, ends) in
      get_or-drop (suc p) s (suc n) 0 ∙ ap (λ (j : ℕ). s at j) k

  part : take (e - (p + 1)) (drop (p + 1) s) ≡ take n behind
  part =
      let k : e - (p + 1) ≡ n = omega (arith, ends) in
      rw (k, next) refl

  -- not closed
  pub open-quoted : length s ≤ e → [] ≡ quoted s
  unfolding delimited_by if ◌and◌
  open-quoted l = sym (split ∙ rw (le-ltb n (length behind) (omega (arith, ends, length-drop (suc p) s))) refl)

  -- closed at the end of the line
  pub end-quoted : e + 1 ≡ length s → take (e - (p + 1)) (drop (p + 1) s) ≡ quoted s
  unfolding delimited_by if ◌and◌ ◌or◌
  end-quoted l =
      let m : length behind ≡ suc n = omega (arith, ends, length-drop (suc p) s) in
      part ∙ sym (split ∙ rw (lt-ltb n (length behind) (omega arith), eq-eqb (suc n) (length behind) (sym m)) refl)

  -- closed before other bytes
  module _ (l : e + 1 < length s) where
    long : suc n < length behind
    long = omega (arith, ends, length-drop (suc p) s)

    pub blank-quoted : s at (e + 1) ≡ blank → take (e - (p + 1)) (drop (p + 1) s) ≡ quoted s
    unfolding delimited_by if ◌and◌ ◌or◌
    blank-quoted b =
        part
        ∙ sym (split
        ∙ rw (
          lt-ltb n (length behind) (omega (arith, long)),
          ne_eqb (suc n) (length behind) (λ x. absurd (omega (arith, long, x))),
          eq-eqb (behind at suc n) blank (after ∙ b),
        ) refl)

    pub other-quoted : (s at (e + 1) ≡ blank → ⊥) → [] ≡ quoted s
    unfolding delimited_by if ◌and◌ ◌or◌
    other-quoted b =
        sym (split
        ∙ rw (
          lt-ltb n (length behind) (omega (arith, long)),
          ne_eqb (suc n) (length behind) (λ x. absurd (omega (arith, long, x))),
          ne_eqb (behind at suc n) blank (λ x. b (sym after ∙ x)),
        ) refl)
