-- `asm_reals::words_of` meets its contract: no words of another form, or the two of the value, which is no NaN.
use mathlib.Core.Path.{sym, ap, subst, ◌∙◌}
use native.Mathlib.Omega.{arith}
use lib.Dec.{T}
use lib.Ieee.{Float, binary64, fits, is_nan}
use mathlib.Core.Bool.{not}
use Rattle.real_rules.proofs.Laws.{bits_below}
use Rattle.real_rules.proofs.Decimals.{constant-fits, constant-no-nan}
use Rattle.asm_reals.specs.Views.{decimal_view}
use Rattle.asm_reals.proofs.Laws.{written-bounds, no_words, words_are}
use Rattle.asm_reals.proofs.words_of.Goals as goal

pub returns-in_default : goal.returns-in_default
returns-in_default c = no_words _ (sym (ap decimal_view c.in_default.is) ∙ c.decimal_of.ensures)

pub value-bits-requires : goal.value-bits-requires
value-bits-requires c = written-bounds c.args.s.now (sym (ap decimal_view c.in-Some.is) ∙ c.decimal_of.ensures)

pub float_to_bits-bits : goal.float_to_bits-bits
float_to_bits-bits c = let q = written-bounds c.args.s.now (sym (ap decimal_view c.in-Some.is) ∙ c.decimal_of.ensures) in subst (λ (x : Float). T (not (is_nan x))) (sym c.value-bits.ensures) (constant-no-nan _ _ _ q.0 q.1)

pub overflow_cast-high : goal.overflow_cast-high
overflow_cast-high c = omega (arith, bits_below c.value-bits.result (subst (λ (x : Float). T (fits binary64 x)) (sym c.value-bits.ensures) (constant-fits _ _ _)))

pub returns : goal.returns
returns c = words_are _ (sym (ap decimal_view c.in-Some.is) ∙ c.decimal_of.ensures) c.value-bits.ensures
