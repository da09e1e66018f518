-- `asm_outcomes::outcome_at` meets its contract: past the formats, past the forms, or the form in its format.
use Prim.Native.Nat.{ℕ}
use mathlib.Core.Path.{sym, ap, ◌∙◌}
use native.Mathlib.Omega.{arith}
use Rattle.language.specs.Operand.{missing, operand_of}
use Rattle.language.specs.Fault.{forms_of}
use Rattle.asm_types.specs.Views.{card_view, form_view, operation_view, symbols_in}
use Rattle.asm_operations.proofs.FormatWords.{format-none, format-some}
use Rattle.asm_values.specs.Read.{format_of}
use Rattle.asm_operands.specs.LineCard.{line_card}
use Rattle.asm_outcomes.proofs.Operands.{no-form, no-format, with-form}
use Rattle.asm_outcomes.proofs.outcome_at.Goals as goal

pub returns-then-format-eq-NONE : goal.returns-then-format-eq-NONE
returns-then-format-eq-NONE c =
    let f = c in
    let a = f.args in
    sym
    (no-format (symbols_in a.symbols.now.words.now a.symbols.now.n) (card_view a.c a.s.now) a.i
    (format-none (operation_view a.c.operation) a.i (sym f.format_at-format.ensures ∙ c.if-format-eq-NONE.true)))

pub returns-then-form_count-i : goal.returns-then-form_count-i
unfolding forms_of
returns-then-form_count-i c =
    let f = c in
    let a = f.args in
    c.missing.ensures
    ∙ ap (λ (w : ℕ). missing (format_of w)) f.format_at-format.ensures
    ∙ no-form (symbols_in a.symbols.now.words.now a.symbols.now.n) (card_view a.c a.s.now) a.i
    (format-some (operation_view a.c.operation) a.i (λ e. c.if-format-eq-NONE.false (f.format_at-format.ensures ∙ e)))
    (omega (arith, c.form_count.ensures, c.if-form_count-i.true))

pub returns : goal.returns
unfolding forms_of
returns c =
    let f = c in
    let a = f.args in
    c.outcome.ensures
    ∙ ap (λ (w : ℕ). operand_of (symbols_in a.symbols.now.words.now a.symbols.now.n) (line_card a.c.spot.line a.s.now) (format_of w) (form_view c.field_form.result))
    f.format_at-format.ensures
    ∙ with-form (symbols_in a.symbols.now.words.now a.symbols.now.n) (card_view a.c a.s.now) a.i
    (format-some (operation_view a.c.operation) a.i (λ e. c.if-format-eq-NONE.false (f.format_at-format.ensures ∙ e)))
    (omega (arith, c.form_count.ensures, c.if-form_count-i.false)) _ c.field_form.ensures
