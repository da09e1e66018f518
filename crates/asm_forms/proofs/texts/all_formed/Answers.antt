-- `asm_forms::texts::all_formed` meets its contract. Invariant: the test of the texts from place `from` on answers for all.
use Prim.Native.Nat.{ℕ}
use mathlib.Core.Path.{refl, sym, ap, ◌∙◌}
use mathlib.Core.List.{List, map}
use native.Mathlib.Omega.{arith}
use Rattle.language.specs.Form.{all_formed, form_by}
use Rattle.asm_forms.proofs.Divided.{formed-last, formed-more, formless-text, texts-long, texts-none}
use borrow.Author.Rules.{rules}
use Rattle.asm_forms.proofs.texts.all_formed.Goals as goal

pub returns-then-f-eq0 : goal.returns-then-f-eq0
returns-then-f-eq0 c = rw (texts-none c.args.f.now c.if-f-eq0.true) refl

pub loop-real-init : goal.loop-real-init
loop-real-init c = (ap (λ (l : List (List ℕ)). all_formed (map (form_by c.args.real) l)) (texts-long c.args.f.now c.if-f-eq0.false), search rules)

pub find_byte-e-requires : goal.find_byte-e-requires
find_byte-e-requires c = c.loop-real.invariant.1

pub returns-then-is_formless : goal.returns-then-is_formless
returns-then-is_formless c =
    formless-text c.args.real c.args.f.now _ _ c.find_byte-e.ensures.0 c.loop-real.invariant.1 _ c.form_by.ensures
    (sym c.is_formless.ensures ∙ c.if-is_formless.true) ∙ c.loop-real.invariant.0

pub returns-then-e-f : goal.returns-then-e-f
returns-then-e-f c =
    formed-last c.args.real c.args.f.now _ _ c.find_byte-e.ensures.0 c.loop-real.invariant.1 _ c.form_by.ensures
    (sym c.is_formless.ensures ∙ c.if-is_formless.false) (omega (arith, c.if-e-f.true)) ∙ c.loop-real.invariant.0

pub loop-real-preserved : goal.loop-real-preserved
loop-real-preserved c = (
  formed-more c.args.real c.args.f.now _ _ c.find_byte-e.ensures.0 c.loop-real.invariant.1 _ c.form_by.ensures
      (sym c.is_formless.ensures ∙ c.if-is_formless.false) (omega (arith, c.if-e-f.false, c.find_byte-e.ensures.1)) ∙ c.loop-real.invariant.0,
  omega (arith, c.if-e-f.false, c.find_byte-e.ensures.1),
)
