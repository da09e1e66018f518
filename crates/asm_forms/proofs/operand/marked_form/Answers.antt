-- `asm_forms::operand::marked_form` meets its contract: each return rewrites with the tests that led there.
use mathlib.Core.Path.{◌≡◌, refl}
use native.Mathlib.Omega.{arith}
use borrow.Author.Tests.{ne_eqb, lt-ltb, le-ltb}
use Rattle.base.specs.Test.{◌or◌, if}
use Rattle.language.specs.Text.{byte, span}
use Rattle.language.specs.Form.{before_bracket, marked_form}
use Rattle.asm_forms.proofs.Forms.{marked-none}
use Rattle.asm_forms.proofs.operand.marked_form.Goals as goal

pub returns-then-s-eq0 : goal.returns-then-s-eq0
unfolding marked_form if ◌or◌
returns-then-s-eq0 c = marked-none c.args.s.now c.if-s-eq0.true

pub literal_form-requires : goal.literal_form-requires
literal_form-requires c = (omega (arith, c.if-s-eq0.false), c.if-s-eq61.true)

pub returns-then-s-eq61 : goal.returns-then-s-eq61
unfolding marked_form if ◌or◌
returns-then-s-eq61 c = c.literal_form.ensures

pub multiple_form-requires : goal.multiple_form-requires
multiple_form-requires c = (omega (arith, c.if-s-eq0.false), c.if-s-eq42.true)

pub returns-then-s-eq42 : goal.returns-then-s-eq42
unfolding marked_form if ◌or◌
returns-then-s-eq42 c = c.multiple_form.ensures

pub bracket_form-requires : goal.bracket_form-requires
bracket_form-requires c = c.if-s-eq40.true

pub returns-then-s-eq40 : goal.returns-then-s-eq40
unfolding marked_form if ◌or◌
returns-then-s-eq40 c = c.bracket_form.ensures

pub positive_form-requires : goal.positive_form-requires
positive_form-requires c = (omega (arith, c.if-s-eq0.false), c.if-s-eq43.true)

pub returns-then-s-eq43 : goal.returns-then-s-eq43
unfolding marked_form if ◌or◌
returns-then-s-eq43 c = rw c.if-s-eq43.true c.positive_form.ensures

pub negative_form-requires : goal.negative_form-requires
negative_form-requires c = (omega (arith, c.if-s-eq0.false), c.if-s-eq45.true)

pub returns-then-s-eq45 : goal.returns-then-s-eq45
unfolding marked_form if ◌or◌
returns-then-s-eq45 c = rw c.if-s-eq45.true c.negative_form.ensures

pub returns-then-p-s : goal.returns-then-p-s
unfolding marked_form if ◌or◌
returns-then-p-s c =
    let s = c.args.s.now in
    let p : c.find_byte-p.result ≡ span before_bracket s = omega (arith, c.find_byte-p.ensures.0) in
    rw (
      ne_eqb _ (byte "=") c.if-s-eq61.false,
      ne_eqb _ (byte "*") c.if-s-eq42.false,
      ne_eqb _ (byte "(") c.if-s-eq40.false,
      ne_eqb _ (byte "+") c.if-s-eq43.false,
      ne_eqb _ (byte "-") c.if-s-eq45.false,
      ← p,
      lt-ltb _ _ c.if-p-s.true,
    ) c.indexed_form.ensures

pub combined_form-requires : goal.combined_form-requires
combined_form-requires c = c.if-q-s.true

pub returns-then-q-s : goal.returns-then-q-s
unfolding marked_form if ◌or◌
returns-then-q-s c =
    let s = c.args.s.now in
    let p : c.find_byte-p.result ≡ span before_bracket s = omega (arith, c.find_byte-p.ensures.0) in
    rw (
      ne_eqb _ (byte "=") c.if-s-eq61.false,
      ne_eqb _ (byte "*") c.if-s-eq42.false,
      ne_eqb _ (byte "(") c.if-s-eq40.false,
      ne_eqb _ (byte "+") c.if-s-eq43.false,
      ne_eqb _ (byte "-") c.if-s-eq45.false,
      ← p,
      le-ltb _ _ c.if-p-s.false,
      ← c.find_sign-q.ensures,
      lt-ltb _ _ c.if-q-s.true,
    ) c.combined_form.ensures

pub returns : goal.returns
unfolding marked_form if ◌or◌
returns c =
    let s = c.args.s.now in
    let p : c.find_byte-p.result ≡ span before_bracket s = omega (arith, c.find_byte-p.ensures.0) in
    rw (
      ne_eqb _ (byte "=") c.if-s-eq61.false,
      ne_eqb _ (byte "*") c.if-s-eq42.false,
      ne_eqb _ (byte "(") c.if-s-eq40.false,
      ne_eqb _ (byte "+") c.if-s-eq43.false,
      ne_eqb _ (byte "-") c.if-s-eq45.false,
      ← p,
      le-ltb _ _ c.if-p-s.false,
      ← c.find_sign-q.ensures,
      le-ltb _ _ c.if-q-s.false,
    ) refl
