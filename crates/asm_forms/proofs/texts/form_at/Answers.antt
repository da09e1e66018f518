-- `asm_forms::texts::form_at` meets its contract. Invariant: text k of those from place `from` on is the text sought.
use Prim.Native.Nat.{ℕ, ◌+◌, ◌-◌}
use mathlib.Core.Path.{◌≡◌, refl, sym, ap, ◌∙◌}
use mathlib.Core.List.{List, map}
use native.Mathlib.Omega.{arith}
use lib.ListN.{get_or}
use Rattle.language.specs.Form.{form_by, formless}
use Rattle.asm_types.specs.Views.{cut_form}
use Rattle.asm_forms.proofs.Divided.{first-form, form_from, next-form, past-forms, texts-long, texts-none}
use borrow.Author.Rules.{rules}
use Rattle.asm_forms.proofs.texts.form_at.Goals as goal

pub returns-then-f-eq0 : goal.returns-then-f-eq0
returns-then-f-eq0 c = rw (texts-none c.args.f.now c.if-f-eq0.true) refl

pub loop-k-init : goal.loop-k-init
loop-k-init c =
    let z : c.args.i - 0 ≡ c.args.i = omega arith in
    (rw z (ap (λ (l : List (List ℕ)). get_or (map (form_by c.args.real) l) c.args.i formless) (texts-long c.args.f.now c.if-f-eq0.false)), search rules)

pub find_byte-e-requires : goal.find_byte-e-requires
find_byte-e-requires c = c.loop-k.invariant.1

pub returns-then-e-f : goal.returns-then-e-f
returns-then-e-f c =
    ap cut_form (past-forms c.args.real c.args.f.now _ _ c.find_byte-e.ensures.0 c.loop-k.invariant.1 _ (omega (arith, c.loop-k-test.true))
    (omega (arith, c.if-e-f.true)) ∙ c.loop-k.invariant.0)

pub loop-k-preserved : goal.loop-k-preserved
loop-k-preserved c =
    let m : c.args.i - (c.loop-k._k + 1) ≡ c.args.i - c.loop-k._k - 1 = omega arith in (
      rw m (next-form c.args.real c.args.f.now _ _ c.find_byte-e.ensures.0 c.loop-k.invariant.1 (c.args.i - c.loop-k._k) (omega (arith, c.loop-k-test.true))
          (omega (arith, c.if-e-f.false, c.find_byte-e.ensures.1)) ∙ c.loop-k.invariant.0),
      omega (arith, c.if-e-f.false, c.find_byte-e.ensures.1),
    )

pub find_byte-e-requires-2 : goal.find_byte-e-requires-2
find_byte-e-requires-2 c = c.loop-k.invariant.1

pub returns : goal.returns
returns c =
    let z : 0 ≡ c.args.i - c.loop-k._k = omega (arith, c.loop-k-test.false) in
    c.form_by.ensures
    ∙ ap cut_form (sym (first-form c.args.real c.args.f.now _ _ c.find_byte-e-2.ensures.0 c.loop-k.invariant.1)
    ∙ ap (form_from c.args.real c.args.f.now c.loop-k.from) z ∙ c.loop-k.invariant.0)
