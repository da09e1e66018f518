-- `asm_names::label_formed` meets its contract: each return rewrites with the tests that led there.
use mathlib.Core.Path.{◌≡◌, refl, ap, ◌∙◌}
use native.Mathlib.Omega.{arith}
use borrow.Author.Tests.{eq-eqb, ne_eqb}
use Rattle.base.specs.Test.{◌or◌}
use Rattle.language.specs.Text.{in_word, is_parsed, label_end, label_formed, span, symbol_of}
use Rattle.asm_names.proofs.Numbers.{label-taken, read-some}
use Rattle.asm_names.proofs.label_formed.Goals as goal

pub returns-then-e-eq0 : goal.returns-then-e-eq0
unfolding label_formed label_end ◌or◌
returns-then-e-eq0 c = rw (eq-eqb (span in_word c.args.s.now) 0 (omega (arith, c.find_byte-e.ensures.0, c.if-e-eq0.true))) refl

pub returns : goal.returns
unfolding label_formed label_end ◌or◌
returns c =
    let s = c.args.s.now in
    let e : c.find_byte-e.result ≡ span in_word s = omega (arith, c.find_byte-e.ensures.0) in
    rw (ne_eqb (span in_word s) 0 (λ h. c.if-e-eq0.false (e ∙ h)))
    (c.is_some.ensures ∙ read-some _ ∙ ap is_parsed (c.symbol_of.ensures ∙ ap symbol_of (label-taken s _ c.find_byte-e.ensures.0)))
