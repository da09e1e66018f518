-- `asm_outcomes::all_pass` meets its contract. Invariant: the test of the operands from i on answers for all.
use mathlib.Core.Path.{refl, sym, ap, ◌∙◌}
use native.Mathlib.Omega.{arith}
use Rattle.language.specs.Operand.{outcomes}
use Rattle.asm_types.specs.Views.{card_view, symbols_in}
use Rattle.asm_outcomes.specs.Tests.{test_by}
use Rattle.asm_outcomes.proofs.Operands.{outcomes-count, test-more, test-out, test-stop}
use borrow.Author.Rules.{rules}
use Rattle.asm_outcomes.proofs.all_pass.Goals as goal

pub loop-i-init : goal.loop-i-init
loop-i-init c = (refl, search rules)

pub returns-then-not-passes : goal.returns-then-not-passes
returns-then-not-passes c =
    let all = symbols_in c.args.symbols.now.words.now c.args.symbols.now.n in
    let card = card_view c.args.c c.args.s.now in
    test-stop c.args.test (outcomes all card) c.loop-i.i (omega (arith, outcomes-count all card, c.format_count-count.ensures, c.loop-i-test.true))
    (ap (test_by c.args.test) (sym c.outcome_at.ensures) ∙ sym c.passes.ensures ∙ c.if-not-passes.true) ∙ c.loop-i.invariant.0

pub loop-i-preserved : goal.loop-i-preserved
loop-i-preserved c =
    let all = symbols_in c.args.symbols.now.words.now c.args.symbols.now.n in
    let card = card_view c.args.c c.args.s.now in (
      test-more c.args.test (outcomes all card) c.loop-i.i (omega (arith, outcomes-count all card, c.format_count-count.ensures, c.loop-i-test.true))
          (ap (test_by c.args.test) (sym c.outcome_at.ensures) ∙ sym c.passes.ensures ∙ c.if-not-passes.false) ∙ c.loop-i.invariant.0,
      search rules,
    )

pub returns : goal.returns
returns c =
    let all = symbols_in c.args.symbols.now.words.now c.args.symbols.now.n in
    let card = card_view c.args.c c.args.s.now in
    test-out c.args.test (outcomes all card) c.loop-i.i (omega (arith, outcomes-count all card, c.format_count-count.ensures, c.loop-i-test.false)) ∙ c.loop-i.invariant.0
