-- `asm_faults::fault_of` meets its contract: the conditions by their numbers, each return by the tests that led there.
use mathlib.Core.Path.{sym, ◌∙◌}
use borrow.Author.Tests.{eq-eqb, ne_eqb}
use Rattle.base.specs.Test.{if}
use Rattle.language.specs.Fault.{in_its_section, symbols_defined}
use Rattle.asm_types.specs.Views.{card_view, symbols_in}
use Rattle.asm_faults.specs.Groups.{fault_by}
use Rattle.asm_faults.proofs.Grouped.{by-groups}
use Rattle.asm_faults.proofs.fault_of.Goals as goal

pub returns-then-not-line_formed : goal.returns-then-not-line_formed
unfolding fault_by in_its_section symbols_defined if
returns-then-not-line_formed c = λ d e. by-groups d (card_view c.args.c c.args.s.now) c.args.shape (symbols_in c.args.symbols.now.words.now c.args.symbols.now.n) 1 (rw (sym c.line_formed.ensures ∙ c.if-not-line_formed.true)) e

pub returns-then-not-of_section : goal.returns-then-not-of_section
unfolding fault_by in_its_section symbols_defined if
returns-then-not-of_section c = λ d e. by-groups d (card_view c.args.c c.args.s.now) c.args.shape (symbols_in c.args.symbols.now.words.now c.args.symbols.now.n) 2 (rw (sym c.line_formed.ensures ∙ c.if-not-line_formed.false, sym c.of_section.ensures ∙ c.if-not-of_section.true)) e

pub returns-then-not-label_right : goal.returns-then-not-label_right
unfolding fault_by in_its_section symbols_defined if
returns-then-not-label_right c = λ d e. by-groups d (card_view c.args.c c.args.s.now) c.args.shape (symbols_in c.args.symbols.now.words.now c.args.symbols.now.n) 3 (rw (sym c.line_formed.ensures ∙ c.if-not-line_formed.false, sym c.of_section.ensures ∙ c.if-not-of_section.false, sym (c.label_right.ensures c.args.s.now) ∙ c.if-not-label_right.true)) e

pub returns-then-not-operands_right : goal.returns-then-not-operands_right
unfolding fault_by in_its_section symbols_defined if
returns-then-not-operands_right c = λ d e. by-groups d (card_view c.args.c c.args.s.now) c.args.shape (symbols_in c.args.symbols.now.words.now c.args.symbols.now.n) 4 (rw (sym c.line_formed.ensures ∙ c.if-not-line_formed.false, sym c.of_section.ensures ∙ c.if-not-of_section.false, sym (c.label_right.ensures c.args.s.now) ∙ c.if-not-label_right.false, sym c.operands_right.ensures ∙ c.if-not-operands_right.true)) e

pub returns-then-not-all_defined : goal.returns-then-not-all_defined
unfolding fault_by in_its_section symbols_defined if
returns-then-not-all_defined c = λ d e. by-groups d (card_view c.args.c c.args.s.now) c.args.shape (symbols_in c.args.symbols.now.words.now c.args.symbols.now.n) 5 (rw (sym c.line_formed.ensures ∙ c.if-not-line_formed.false, sym c.of_section.ensures ∙ c.if-not-of_section.false, sym (c.label_right.ensures c.args.s.now) ∙ c.if-not-label_right.false, sym c.operands_right.ensures ∙ c.if-not-operands_right.false, sym c.all_defined.ensures ∙ c.if-not-all_defined.true)) e

pub returns-then-not-lists_right : goal.returns-then-not-lists_right
unfolding fault_by in_its_section symbols_defined if
returns-then-not-lists_right c = λ d e. by-groups d (card_view c.args.c c.args.s.now) c.args.shape (symbols_in c.args.symbols.now.words.now c.args.symbols.now.n) 6 (rw (sym c.line_formed.ensures ∙ c.if-not-line_formed.false, sym c.of_section.ensures ∙ c.if-not-of_section.false, sym (c.label_right.ensures c.args.s.now) ∙ c.if-not-label_right.false, sym c.operands_right.ensures ∙ c.if-not-operands_right.false, sym c.all_defined.ensures ∙ c.if-not-all_defined.false, sym c.lists_right.ensures ∙ c.if-not-lists_right.true)) e

pub returns-then-shape-ne0 : goal.returns-then-shape-ne0
unfolding fault_by in_its_section symbols_defined if
returns-then-shape-ne0 c = λ d e. by-groups d (card_view c.args.c c.args.s.now) c.args.shape (symbols_in c.args.symbols.now.words.now c.args.symbols.now.n) 7 (rw (sym c.line_formed.ensures ∙ c.if-not-line_formed.false, sym c.of_section.ensures ∙ c.if-not-of_section.false, sym (c.label_right.ensures c.args.s.now) ∙ c.if-not-label_right.false, sym c.operands_right.ensures ∙ c.if-not-operands_right.false, sym c.all_defined.ensures ∙ c.if-not-all_defined.false, sym c.lists_right.ensures ∙ c.if-not-lists_right.false, ne_eqb c.args.shape 0 c.if-shape-ne0.true)) e

pub returns : goal.returns
unfolding fault_by in_its_section symbols_defined if
returns c = λ d e. by-groups d (card_view c.args.c c.args.s.now) c.args.shape (symbols_in c.args.symbols.now.words.now c.args.symbols.now.n) 0 (rw (sym c.line_formed.ensures ∙ c.if-not-line_formed.false, sym c.of_section.ensures ∙ c.if-not-of_section.false, sym (c.label_right.ensures c.args.s.now) ∙ c.if-not-label_right.false, sym c.operands_right.ensures ∙ c.if-not-operands_right.false, sym c.all_defined.ensures ∙ c.if-not-all_defined.false, sym c.lists_right.ensures ∙ c.if-not-lists_right.false, eq-eqb c.args.shape 0 c.if-shape-ne0.false)) e
