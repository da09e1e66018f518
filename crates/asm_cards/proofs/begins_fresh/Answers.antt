-- `asm_cards::begins_fresh` meets its contract: a short line, another first byte, or the second byte.
use Rattle.asm_cards.proofs.Counting.{fresh-short}
use Rattle.base.specs.Test.{◌and◌}
use borrow.Author.Tests.{eq-eqb, ne_eqb}
use mathlib.Core.Path.{sym}
use Rattle.asm_cards.proofs.begins_fresh.Goals as goal

pub returns-then-s-lt2 : goal.returns-then-s-lt2
returns-then-s-lt2 c = sym (fresh-short c.args.s.now c.if-s-lt2.true)

pub returns-then-s-ne70 : goal.returns-then-s-ne70
unfolding ◌and◌
returns-then-s-ne70 c = rw (ne_eqb _ 70 c.if-s-ne70.true)

pub returns : goal.returns
unfolding ◌and◌
returns c = rw (eq-eqb _ 70 c.if-s-ne70.false)
