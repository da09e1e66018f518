-- What the checks answer a host: 0, or the number of the refusal.
-- Two wrong answers that the equations rule out: 31 on a table that does not pass, and a link taken from the word beside its own.
-- Assumes nothing.
use Rattle.std.specs.Prelude.{ℕ, not, List}
use Rattle.base.specs.Test.{if}
use Rattle.rules.specs.Number.{Verdict, refused_by, refusal_number, verdict_number, bad_table, bad_state}
use Rattle.rules.specs.Check.{table_ok}
use Rattle.rules.specs.Run.{admitted}
use Rattle.lent.specs.Lent.{lawful, state_from}

-- the table alone
unfoldable pub table_number : List ℕ → ℕ
table_number t = if (table_ok t) 0 (refusal_number bad_table)

-- 30, then 31 for words that are no state, then the checks of the state that the words are
unfoldable pub admitted_words : List ℕ → List ℕ → List ℕ → Verdict
admitted_words t ws mem =
    if (not (table_ok t)) (refused_by bad_table) (if (not (lawful ws)) (refused_by bad_state) (admitted t (state_from ws mem)))

unfoldable pub state_number : List ℕ → List ℕ → List ℕ → ℕ
state_number t ws mem = verdict_number (admitted_words t ws mem)
