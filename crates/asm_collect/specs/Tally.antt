-- The numbers of a table's header counted card by card, and their bounds.
-- Assumes nothing.
use Rattle.std.specs.Prelude.{ℕ, ◌+◌, ◌*◌, ◌≤◌, false, List, [], ◌∷◌}
use Rattle.base.specs.Test.{◌or◌, if}
use Rattle.language.specs.Card.{Card, holds_place, in_section, is_external, one, word_count}
use Rattle.language.specs.Image.{is_below, is_fresh}
use Rattle.language.specs.Answer.{is_closing}
use Rattle.asm_collect.specs.declared.numbers.Counts.{Counts}

-- the counts with one card more
unfoldable pub tallied : Counts → Card → Counts
tallied k c =
    record {
      size = k.size + one (holds_place c);
      constants = k.constants + if (in_section 2 c) (word_count c) 0;
      workings = k.workings + if (in_section 3 c) (word_count c) 0;
      fresh = k.fresh + one (is_fresh c);
      externals = k.externals + one (is_external c);
      section5 = k.section5 + one (is_below 5 c);
      section6 = k.section6 + one (is_below 6 c);
      closed = k.closed or is_closing c;
    }

-- with some cards more
unfoldable pub tally_from : Counts → List Card → Counts
tally_from k [] = k
tally_from k (c ∷ cs) = tally_from (tallied k c) cs

abbrev pub untallied : Counts
untallied =
    record { size = 0; constants = 0; workings = 0; fresh = 0; externals = 0; section5 = 0; section6 = 0; closed = false }

-- The counts after n bytes: a card that counts has a byte, and one more ends its line.
pub record Within (n : ℕ) (k : Counts) : Type 0 where
  pub size_le : 2 * k.size ≤ n
  pub words_le : 2 * (k.constants + k.workings) ≤ n
  pub fresh_le : 2 * k.fresh ≤ n
  pub externals_le : 2 * k.externals ≤ n
  pub section5_le : 2 * k.section5 ≤ n
  pub section6_le : 2 * k.section6 ≤ n
