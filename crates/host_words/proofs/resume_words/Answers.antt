use Rattle.std.proofs.lemmas.Bool.{not_from_true}
use mathlib.Core.Path.{sym, ◌∙◌}
use Rattle.host_words.proofs.Resumes.{host-unresumed, host-went-on, host-declined}
use Rattle.lent.proofs.Links.{lawful-enough}
use Rattle.host_words.proofs.resume_words.Goals as goal

pub returns-then-not-words_ok : goal.returns-then-not-words_ok
returns-then-not-words_ok c = rw c.unread.ensures (host-unresumed _ _ _ _ (sym c.words_ok.ensures ∙ c.if-not-words_ok.true) c.shared_slice_known-2-1.given c.slice_known-1.given)

pub state_of-requires : goal.state_of-requires
state_of-requires c = lawful-enough _ _ c.words_ok.ensures (not_from_true _ c.if-not-words_ok.false)

pub put_state-requires : goal.put_state-requires
put_state-requires c = lawful-enough _ _ c.words_ok.ensures (not_from_true _ c.if-not-words_ok.false)

pub returns-then-n-lt-BAD_TABLE : goal.returns-then-n-lt-BAD_TABLE
returns-then-n-lt-BAD_TABLE c = host-went-on _ _ _ _ _ _ _ (sym c.words_ok.ensures ∙ c.if-not-words_ok.false) c.state_of.ensures c.resume-r.ensures _ _ c.number-n.ensures c.if-n-lt-BAD_TABLE.true c.put_state.ensures c.shared_slice_known-2-1.given c.slice_known-then-n-lt-BAD_TABLE-1.given

pub returns-else-n-lt-BAD_TABLE : goal.returns-else-n-lt-BAD_TABLE
returns-else-n-lt-BAD_TABLE c = host-declined _ _ _ _ _ _ _ (sym c.words_ok.ensures ∙ c.if-not-words_ok.false) c.state_of.ensures c.resume-r.ensures _ c.number-n.ensures c.if-n-lt-BAD_TABLE.false c.shared_slice_known-2-1.given c.slice_known-1.given
