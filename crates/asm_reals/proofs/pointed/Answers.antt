-- `asm_reals::pointed` meets its contract: each return by the place of the point and the digits on its sides. Nine digits are below the
-- largest word, so that nothing is cut off.
use Prim.Native.Nat.{ℕ, ◌+◌, ◌*◌, ◌^◌, ◌≤◌}
use mathlib.Core.Path.{sym, ap, subst, ◌∙◌}
use native.Mathlib.Omega.{arith}
use lib.ListN.{length-take, take, drop}
use Rattle.language.specs.Text.{number_of}
use Rattle.language.specs.Decimal.{digits}
use Rattle.asm_types.specs.Views.{parsed_view}
use Rattle.asm_reals.specs.Views.{decimal_view}
use Rattle.asm_text.proofs.Slices.{rest}
use Rattle.real_rules.proofs.Decimals.{ten-bounds}
use Rattle.asm_reals.proofs.Laws.{cut_word, joined-le, pointed-none, pointed-before, pointed-after, no_number, no-digits, both-parts}
use Rattle.asm_reals.proofs.pointed.Goals as goal

pub returns-then-i-t : goal.returns-then-i-t
returns-then-i-t c = pointed-none _ _ _ c.find_byte-i.ensures.0 (omega arith)

pub returns-then-i-gt-MAX_BEFORE : goal.returns-then-i-gt-MAX_BEFORE
returns-then-i-gt-MAX_BEFORE c = pointed-before _ _ _ c.find_byte-i.ensures.0 (omega (arith, c.find_byte-i.ensures.1, c.if-i-t.false)) c.if-i-gt-MAX_BEFORE.true

pub returns-then-k-gt-MAX_AFTER : goal.returns-then-k-gt-MAX_AFTER
returns-then-k-gt-MAX_AFTER c = pointed-after _ _ _ c.find_byte-i.ensures.0 (omega (arith, c.find_byte-i.ensures.1, c.if-i-t.false)) c.if-i-gt-MAX_BEFORE.false c.if-k-gt-MAX_AFTER.true

pub slice_bounds-number_of-end : goal.slice_bounds-number_of-end
slice_bounds-number_of-end c = omega (arith, length-take c.find_byte-i.result c.args.t.now, c.find_byte-i.ensures.1)

pub returns-in_err-a : goal.returns-in_err-a
returns-in_err-a c = ap decimal_view c.from_residual.ensures ∙ no_number _ _ _ c.find_byte-i.ensures.0 (omega (arith, c.find_byte-i.ensures.1, c.if-i-t.false)) c.if-i-gt-MAX_BEFORE.false c.if-k-gt-MAX_AFTER.false (sym (ap parsed_view c.in_err-a.was) ∙ c.number_of.ensures)

pub returns-in_err-b : goal.returns-in_err-b
returns-in_err-b c = ap decimal_view c.from_residual-in_err-b.ensures ∙ no-digits _ _ _ c.find_byte-i.ensures.0 (omega (arith, c.find_byte-i.ensures.1, c.if-i-t.false)) c.if-i-gt-MAX_BEFORE.false c.if-k-gt-MAX_AFTER.false (sym (ap parsed_view c.in_ok-a.was) ∙ c.number_of.ensures) (sym (ap parsed_view c.in_err-b.was) ∙ (rw (rest _ _) at c.digits.ensures))

pub overflow_mul-result : goal.overflow_mul-result
overflow_mul-result c =
    let room : c.in_ok-a.a * c.power.result + c.in_ok-b.b ≤ 2 ^ 53 = joined-le _ _ _ (cut_word (number_of (take c.find_byte-i.result c.args.t.now)) _ (sym (ap parsed_view c.in_ok-a.was) ∙ c.number_of.ensures)) (cut_word (digits (drop (c.find_byte-i.result + 1) c.args.t.now)) _ (sym (ap parsed_view c.in_ok-b.was) ∙ (rw (rest _ _) at c.digits.ensures))) (subst (λ (x : ℕ). x ≤ 1000000) (sym c.power.ensures) (ten-bounds _ c.if-k-gt-MAX_AFTER.false).0) in
    omega (arith, room)

pub overflow_add-result : goal.overflow_add-result
overflow_add-result c =
    let room : c.in_ok-a.a * c.power.result + c.in_ok-b.b ≤ 2 ^ 53 = joined-le _ _ _ (cut_word (number_of (take c.find_byte-i.result c.args.t.now)) _ (sym (ap parsed_view c.in_ok-a.was) ∙ c.number_of.ensures)) (cut_word (digits (drop (c.find_byte-i.result + 1) c.args.t.now)) _ (sym (ap parsed_view c.in_ok-b.was) ∙ (rw (rest _ _) at c.digits.ensures))) (subst (λ (x : ℕ). x ≤ 1000000) (sym c.power.ensures) (ten-bounds _ c.if-k-gt-MAX_AFTER.false).0) in
    omega (arith, room)

pub returns : goal.returns
returns c = both-parts _ _ _ c.find_byte-i.ensures.0 (omega (arith, c.find_byte-i.ensures.1, c.if-i-t.false)) c.if-i-gt-MAX_BEFORE.false c.if-k-gt-MAX_AFTER.false (sym (ap parsed_view c.in_ok-a.was) ∙ c.number_of.ensures) (sym (ap parsed_view c.in_ok-b.was) ∙ (rw (rest _ _) at c.digits.ensures)) c.power.ensures
