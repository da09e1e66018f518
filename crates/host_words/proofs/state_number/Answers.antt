-- `host_words::state_number` meets its contract: the table's check, then the words', then the state's.
use Rattle.std.proofs.lemmas.Bool.{not_from_false, not_from_true}
use Rattle.admission.proofs.Admits.{table-passed}
use Rattle.host_words.proofs.Answers.{words-no-table, words-no-words, words-granted, words-no-state}
use Rattle.lent.proofs.Links.{lawful-enough}
use Rattle.host_words.proofs.state_number.Goals as goal

pub returns-then-not-check_table : goal.returns-then-not-check_table
returns-then-not-check_table c = λ mem e. words-no-table _ _ _ _ c.check_table.ensures (not_from_false _ c.if-not-check_table.true)

pub returns-then-not-words_ok : goal.returns-then-not-words_ok
returns-then-not-words_ok c = λ mem e. words-no-words _ _ _ _ _ c.check_table.ensures (not_from_true _ c.if-not-check_table.false) c.words_ok.ensures (not_from_false _ c.if-not-words_ok.true)

pub state_of-s-requires : goal.state_of-s-requires
state_of-s-requires c = lawful-enough _ _ c.words_ok.ensures (not_from_true _ c.if-not-words_ok.false)

pub state_ok-requires : goal.state_ok-requires
state_ok-requires c = table-passed _ _ c.check_table.ensures (not_from_true _ c.if-not-check_table.false)

pub returns-then-state_ok : goal.returns-then-state_ok
returns-then-state_ok c =
    λ mem e. words-granted _ _ _ _ _ _ _ c.check_table.ensures (not_from_true _ c.if-not-check_table.false) c.words_ok.ensures (not_from_true _ c.if-not-words_ok.false) c.state_of-s.ensures (c.state_ok.ensures mem e) c.if-state_ok.true

pub returns : goal.returns
returns c =
    λ mem e. words-no-state _ _ _ _ _ _ _ c.check_table.ensures (not_from_true _ c.if-not-check_table.false) c.words_ok.ensures (not_from_true _ c.if-not-words_ok.false) c.state_of-s.ensures (c.state_ok.ensures mem e) c.if-state_ok.false
