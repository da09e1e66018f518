-- The operands of a card by index, and tests of all of them.
-- Assumes nothing.
use Prim.Native.Nat.{ℕ, zero, suc, ◌+◌, ◌<◌, ◌≤◌}
use mathlib.Core.Path.{◌≡◌, refl, sym, ap, ◌∙◌}
use mathlib.Core.Bool.{true, false}
use mathlib.Core.List.{List, [], ◌∷◌, map}
use native.Mathlib.Numerals.{add-one}
use native.Mathlib.Omega.{arith}
use lib.ListN.{drop, drop_of_length-le, get_or, length}
use lib.Seq.{drop-cons}
use Rattle.base.specs.Test.{◌and◌}
use Rattle.ops.specs.Format.{Format, NONE, format_word, no_kind}
use Rattle.language.specs.Operation.{DRC, formats_of, is_assembly}
use Rattle.language.specs.Form.{Form, form_by, formless, written_forms}
use Rattle.language.specs.Card.{Card}
use Rattle.language.specs.Symbol.{Symbol}
use Rattle.language.specs.Operand.{Outcome, gives, missing, operand_at, operand_of, operands_of, outcomes}
use Rattle.asm_types.specs.Views.{cut_form}
use Rattle.asm_values.specs.Read.{format_of}
use Rattle.asm_operands.specs.LineCard.{line_card}
use Rattle.asm_operands.proofs.ReadBack.{format_read, operand_read}
use Rattle.asm_outcomes.specs.Tests.{all_by, test_by}
use Rattle.asm_outcomes.specs.declared.Test.{Test}
use Rattle.asm_outcomes.specs.declared.Test.TheVariants as test
use Rattle.asm_outcomes.proofs.Written.{texts, written_at}

module _ (all : List Symbol) (c : Card) where
  length-operands : (fs : List Format) (os : List Form) → length (operands_of all c fs os) ≡ length fs
  unfolding operands_of
  length-operands [] os = refl
  length-operands (f ∷ fs) [] = ap suc (length-operands fs [])
  length-operands (f ∷ fs) (o ∷ os) = ap suc (length-operands fs os)

  past-formats : (fs : List Format) (os : List Form) (i : ℕ) → length fs ≤ i → operand_at (operands_of all c fs os) i ≡ gives no_kind 0 0
  unfolding operands_of
  past-formats [] os i h = refl
  past-formats (f ∷ fs) os zero h = absurd (omega arith)
  past-formats (f ∷ fs) [] (suc i) h = past-formats fs [] i (omega arith)
  past-formats (f ∷ fs) (o ∷ os) (suc i) h = past-formats fs os i (omega arith)

  past-forms : (fs : List Format) (os : List Form) (i : ℕ) → i < length fs → length os ≤ i
      → operand_at (operands_of all c fs os) i ≡ missing (get_or fs i NONE)
  unfolding operands_of
  past-forms [] os i h k = absurd (omega arith)
  past-forms (f ∷ fs) [] zero h k = refl
  past-forms (f ∷ fs) [] (suc i) h k = past-forms fs [] i (omega arith) (omega arith)
  past-forms (f ∷ fs) (o ∷ os) zero h k = absurd (omega arith)
  past-forms (f ∷ fs) (o ∷ os) (suc i) h k = past-forms fs os i (omega arith) (omega arith)

  by_index : (fs : List Format) (os : List Form) (i : ℕ) → i < length fs → i < length os
      → operand_at (operands_of all c fs os) i ≡ operand_of all c (get_or fs i NONE) (get_or os i formless)
  unfolding operands_of
  by_index [] os i h k = absurd (omega arith)
  by_index (f ∷ fs) [] i h k = absurd (omega arith)
  by_index (f ∷ fs) (o ∷ os) zero h k = refl
  by_index (f ∷ fs) (o ∷ os) (suc i) h k = by_index fs os i (omega arith) (omega arith)

  -- those of the card, as the code finds them
  pub outcomes-count : length (outcomes all c) ≡ length (formats_of c.operation)
  unfolding outcomes
  outcomes-count = length-operands (formats_of c.operation) (written_forms c.operation c.line)

  module _ (i : ℕ) where
    pub no-format : length (formats_of c.operation) ≤ i → operand_at (outcomes all c) i ≡ gives no_kind 0 0
    unfolding outcomes
    no-format h = past-formats (formats_of c.operation) (written_forms c.operation c.line) i h

    module _ (h : i < length (formats_of c.operation)) where
      abbrev format : Format
      format = get_or (formats_of c.operation) i NONE

      pub no-form : length (written_forms c.operation c.line) ≤ i → missing (format_of (format_word format)) ≡ operand_at (outcomes all c) i
      unfolding outcomes
      no-form k =
          ap missing (format_read c.operation i h)
          ∙ sym (past-forms (formats_of c.operation) (written_forms c.operation c.line) i h k)

      pub with-form : i < length (written_forms c.operation c.line) → (o : Form) → o ≡ cut_form (get_or (map (form_by (is_assembly DRC c.operation)) (texts c.line)) i formless)
          → operand_of all (line_card c.spot.line c.line) (format_of (format_word format)) o ≡ operand_at (outcomes all c) i
      unfolding outcomes
      with-form k o q =
          ap (operand_of all (line_card c.spot.line c.line) (format_of (format_word format)))
          (q ∙ ap cut_form (sym (written_at c.operation c.line i k)))
          ∙ operand_read all c format (get_or (written_forms c.operation c.line) i formless) (format_read c.operation i h)
          ∙ sym (by_index (formats_of c.operation) (written_forms c.operation c.line) i h k)

-- a test of all operands, from one on
all_none : (t : Test) → all_by t [] ≡ true
unfolding all_by
all_none test.Fits = refl
all_none test.Defined = refl
all_none test.Given = refl

all_first : (t : Test) (o : Outcome) (os : List Outcome) → all_by t (o ∷ os) ≡ (test_by t o and all_by t os)
unfolding all_by test_by
all_first test.Fits o os = refl
all_first test.Defined o os = refl
all_first test.Given o os = refl

module _ (t : Test) (os : List Outcome) (i : ℕ) where
  at-cons : i < length os → drop i os ≡ operand_at os i ∷ drop (i + 1) os
  at-cons h = let a : drop (i + 1) os ≡ drop (suc i) os = rw add-one refl in rw a (drop-cons os i (gives no_kind 0 0) h)

  pub test-more : i < length os → test_by t (operand_at os i) ≡ true → all_by t (drop (i + 1) os) ≡ all_by t (drop i os)
  unfolding ◌and◌
  test-more h e = sym (ap (all_by t) (at-cons h) ∙ all_first t (operand_at os i) (drop (i + 1) os) ∙ rw e refl)

  pub test-stop : i < length os → test_by t (operand_at os i) ≡ false → false ≡ all_by t (drop i os)
  unfolding ◌and◌
  test-stop h e = sym (ap (all_by t) (at-cons h) ∙ all_first t (operand_at os i) (drop (i + 1) os) ∙ rw e refl)

  pub test-out : length os ≤ i → true ≡ all_by t (drop i os)
  test-out h = let d : drop i os ≡ [] = drop_of_length-le os {i = i} h in sym (ap (all_by t) d ∙ all_none t)
