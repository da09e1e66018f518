-- `asm_forms::operand::combined_form` meets its contract: each return rewrites with the tests that led there.
use Prim.Native.Nat.{◌+◌}
use mathlib.Core.Path.{refl, ap, ◌∙◌}
use mathlib.Core.Bool.{true, false}
use borrow.Author.Tests.{eq-eqb, ne_eqb}
use lib.ListN.{drop, take}
use Rattle.language.specs.Text.{byte, number_of, symbol_of}
use Rattle.language.specs.Form.{combined_form, formless}
use Rattle.asm_forms.specs.Terms.{cut_read, term_in, value_view}
use Rattle.asm_forms.proofs.Forms.{combined-read, no_number, no_symbol, on-front, on-rest, with-term}
use Rattle.asm_forms.proofs.operand.combined_form.Goals as goal

pub returns-in_default : goal.returns-in_default
unfolding combined_form
returns-in_default c =
    let s = c.args.s.now in
    let l = take c.args.i s in
    let t = on-front (λ l. cut_read (term_in l)) s c.args.i c.term_of-v.ensures ∙ ap value_view c.in_default.is in
    rw (no_symbol (symbol_of l) (number_of l) t, no_number (symbol_of l) (number_of l) t) refl

pub returns-in_default-w : goal.returns-in_default-w
unfolding combined_form
returns-in_default-w c =
    let s = c.args.s.now in
    let l = take c.args.i s in
    let m = drop (c.args.i + 1) s in
    let t = on-front (λ l. cut_read (term_in l)) s c.args.i c.term_of-v.ensures ∙ ap value_view c.in-Some.is in
    let u = on-rest (λ l. cut_read (term_in l)) s (c.args.i + 1) c.term_of-w.ensures ∙ ap value_view c.in_default-w.is in
    rw (no_symbol (symbol_of m) (number_of m) u, no_number (symbol_of m) (number_of m) u)
    (with-term (symbol_of l) (number_of l) _ (λ w. formless) (λ w. formless) formless (λ w. refl) t)

pub returns-then-s-i-eq43 : goal.returns-then-s-i-eq43
unfolding combined_form
returns-then-s-i-eq43 c =
    let s = c.args.s.now in
    let l = take c.args.i s in
    let m = drop (c.args.i + 1) s in
    let t = on-front (λ l. cut_read (term_in l)) s c.args.i c.term_of-v.ensures ∙ ap value_view c.in-Some.is in
    let u = on-rest (λ l. cut_read (term_in l)) s (c.args.i + 1) c.term_of-w.ensures ∙ ap value_view c.in-Some-w.is in
    rw (eq-eqb _ (byte "+") c.if-s-i-eq43.true) (combined-read (symbol_of l) (number_of l) (symbol_of m) (number_of m) true _ _ t u)

pub returns : goal.returns
unfolding combined_form
returns c =
    let s = c.args.s.now in
    let l = take c.args.i s in
    let m = drop (c.args.i + 1) s in
    let t = on-front (λ l. cut_read (term_in l)) s c.args.i c.term_of-v.ensures ∙ ap value_view c.in-Some.is in
    let u = on-rest (λ l. cut_read (term_in l)) s (c.args.i + 1) c.term_of-w.ensures ∙ ap value_view c.in-Some-w.is in
    rw (ne_eqb _ (byte "+") c.if-s-i-eq43.false) (combined-read (symbol_of l) (number_of l) (symbol_of m) (number_of m) false _ _ t u)
