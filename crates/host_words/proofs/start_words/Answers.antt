use Rattle.host_words.proofs.Begins.{host-unstarted, host-begun, host-unbegun}
use Rattle.host_words.proofs.start_words.Goals as goal

pub returns-then-state-lt-WORDS : goal.returns-then-state-lt-WORDS
returns-then-state-lt-WORDS c = rw c.unread.ensures (host-unstarted _ _ _ _ _ _ c.if-state-lt-WORDS.true c.slice_known-1.given c.slice_known-2-1.given)

pub returns-in-Ok : goal.returns-in-Ok
returns-in-Ok c = host-begun _ _ _ _ _ _ _ c.if-state-lt-WORDS.false _ (rw c.in-Ok.is at c.start.ensures) _ c.put_state.ensures c.type_inv.memory c.type_inv.state

pub returns-in-Err : goal.returns-in-Err
returns-in-Err c = host-unbegun _ _ _ _ _ _ _ c.if-state-lt-WORDS.false _ (rw c.in-Err.is at c.start.ensures) _ c.number.ensures c.type_inv.memory c.type_inv.state
