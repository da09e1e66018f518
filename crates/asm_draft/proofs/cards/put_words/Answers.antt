-- `asm_draft::cards::put_words` meets its contract: each return rewrites with the tests that led there.
use Rattle.language.specs.Text.{field_of}
use Rattle.language.specs.Decimal.{decimal_of}
use Rattle.language.specs.Image.{words_in}
use Rattle.language.proofs.Lengths.{real-length}
use Rattle.asm_draft.proofs.Storing.{untouched}
use Rattle.base.specs.Test.{if}
use mathlib.Core.Path.{sym, ◌∙◌}
use native.Mathlib.Omega.{arith}
use Rattle.asm_draft.proofs.cards.put_words.Goals as goal

pub returns-then-not-of_words : goal.returns-then-not-of_words
unfolding words_in if
returns-then-not-of_words c = rw (sym (c.of_words.ensures c.args.s.now) ∙ c.if-not-of_words.true) (untouched _ _)

pub put-requires : goal.put-requires
unfolding words_in if
put-requires c = omega (arith, rw (sym (c.of_words.ensures c.args.s.now) ∙ c.if-not-of_words.false, sym c.is_one_word.ensures ∙ c.if-is_one_word.true) at c.requires.1)

pub returns-then-is_one_word : goal.returns-then-is_one_word
unfolding words_in if
returns-then-is_one_word c = rw (sym (c.of_words.ensures c.args.s.now) ∙ c.if-not-of_words.false, sym c.is_one_word.ensures ∙ c.if-is_one_word.true, ← c.value_at.ensures) c.put.ensures

pub put_real-requires : goal.put_real-requires
unfolding words_in if
put_real-requires c =
    omega (arith, real-length (decimal_of (field_of c.args.s.now)), rw (sym (c.of_words.ensures c.args.s.now) ∙ c.if-not-of_words.false, sym c.is_one_word.ensures ∙ c.if-is_one_word.false, sym c.is_assembly.ensures ∙ c.if-is_assembly.true) at c.requires.1)

pub returns-then-is_assembly : goal.returns-then-is_assembly
unfolding words_in if
returns-then-is_assembly c = rw (sym (c.of_words.ensures c.args.s.now) ∙ c.if-not-of_words.false, sym c.is_one_word.ensures ∙ c.if-is_one_word.false, sym c.is_assembly.ensures ∙ c.if-is_assembly.true) c.put_real.ensures

pub returns-then-not-is_assembly : goal.returns-then-not-is_assembly
unfolding words_in if
returns-then-not-is_assembly c = rw (sym (c.of_words.ensures c.args.s.now) ∙ c.if-not-of_words.false, sym c.is_one_word.ensures ∙ c.if-is_one_word.false, sym c.is_assembly.ensures ∙ c.if-is_assembly.false, sym c.is_assembly-2.ensures ∙ c.if-not-is_assembly.true) (untouched _ _)

pub put_text-requires : goal.put_text-requires
unfolding words_in if
put_text-requires c = rw (sym (c.of_words.ensures c.args.s.now) ∙ c.if-not-of_words.false, sym c.is_one_word.ensures ∙ c.if-is_one_word.false, sym c.is_assembly.ensures ∙ c.if-is_assembly.false, sym c.is_assembly-2.ensures ∙ c.if-not-is_assembly.false) at c.requires.1

pub returns : goal.returns
unfolding words_in if
returns c = rw (sym (c.of_words.ensures c.args.s.now) ∙ c.if-not-of_words.false, sym c.is_one_word.ensures ∙ c.if-is_one_word.false, sym c.is_assembly.ensures ∙ c.if-is_assembly.false, sym c.is_assembly-2.ensures ∙ c.if-not-is_assembly.false) c.put_text.ensures
