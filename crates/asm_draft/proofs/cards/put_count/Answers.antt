-- `asm_draft::cards::put_count` meets its contract: each return rewrites with the test that led there.
use Rattle.language.specs.Image.{counts_in}
use Rattle.asm_draft.proofs.Storing.{untouched}
use Rattle.base.specs.Test.{if}
use mathlib.Core.Path.{sym, ◌∙◌}
use native.Mathlib.Omega.{arith}
use Rattle.asm_draft.proofs.cards.put_count.Goals as goal

pub returns-then-not-is_external : goal.returns-then-not-is_external
unfolding counts_in if
returns-then-not-is_external c = rw (sym (c.is_external.ensures c.args.s.now) ∙ c.if-not-is_external.true) (untouched _ _)

pub put-requires : goal.put-requires
unfolding counts_in if
put-requires c = omega (arith, rw (sym (c.is_external.ensures c.args.s.now) ∙ c.if-not-is_external.false) at c.requires.1)

pub returns : goal.returns
unfolding counts_in if
returns c = rw (sym (c.is_external.ensures c.args.s.now) ∙ c.if-not-is_external.false, ← c.value_at.ensures) c.put.ensures
