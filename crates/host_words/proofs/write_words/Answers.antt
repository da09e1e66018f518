-- `host_words::write_words` meets its contract: the table's check, then the words', then the writer's.
use Rattle.std.proofs.lemmas.Bool.{not_from_true}
use mathlib.Core.Path.{sym, ◌∙◌}
use Rattle.admission.proofs.Admits.{table-passed}
use Rattle.host_words.proofs.Freezes.{host-unwritten-table, host-unwritten-words, host-written}
use Rattle.lent.proofs.Links.{lawful-enough}
use Rattle.host_words.proofs.write_words.Goals as goal

pub returns-then-not-check_table : goal.returns-then-not-check_table
returns-then-not-check_table c = host-unwritten-table _ _ _ _ _ (sym c.check_table.ensures ∙ c.if-not-check_table.true)

pub returns-then-not-words_ok : goal.returns-then-not-words_ok
returns-then-not-words_ok c = host-unwritten-words _ _ _ _ _ (sym c.check_table.ensures ∙ c.if-not-check_table.false) (sym c.words_ok.ensures ∙ c.if-not-words_ok.true)

pub state_of-s-requires : goal.state_of-s-requires
state_of-s-requires c = lawful-enough _ _ c.words_ok.ensures (not_from_true _ c.if-not-words_ok.false)

pub write_checked-w-requires : goal.write_checked-w-requires
write_checked-w-requires c = table-passed _ _ c.check_table.ensures (not_from_true _ c.if-not-check_table.false)

pub returns : goal.returns
returns c =
    host-written _ _ _ _ _ (sym c.check_table.ensures ∙ c.if-not-check_table.false) _ _ _ _
    (sym c.words_ok.ensures ∙ c.if-not-words_ok.false) c.state_of-s.ensures c.write_checked-w.ensures c.number_written.ensures
