-- `resuming::waiting::resume_waiting` meets its contract: 33, 26, or the place of the exit.
use mathlib.Core.Path.{refl}
use Rattle.rules.specs.Number.{impossible_exit, not_resumable, resumed, stopped}
use Rattle.states.specs.Views.{state_of}
use Rattle.resuming.specs.declared.answers.Answer.TheVariants.{ImpossibleExit, NotResumable, Resumed}
use Rattle.resuming.proofs.Granted.{few-open}
use Rattle.resuming.proofs.Exited.{resume-above, resume-calls, resume-ended, resume-goes, resume-high, resume-packs, resume-refused, resume-stays}
use Rattle.resuming.proofs.waiting.resume_waiting.Goals as goal

pub declared_at-requires : goal.declared_at-requires
declared_at-requires c = resume-calls _ _ _ c.requires.0 c.args.exit c.requires.1 _ c.index-p.ensures

pub returns-then-declared_at-exit : goal.returns-then-declared_at-exit
returns-then-declared_at-exit c = resume-refused _ _ _ _ _ NotResumable not_resumable refl (resume-above _ _ _ c.requires.0 c.args.exit c.requires.1 (rw (c.declared_at.ensures, c.index-p.ensures) at c.if-declared_at-exit.true)) c.declined.ensures

pub take_exit-r-requires : goal.take_exit-r-requires
take_exit-r-requires c = (resume-calls _ _ _ c.requires.0 c.args.exit c.requires.1 _ c.index-p.ensures, rw c.declared_at.ensures at c.if-declared_at-exit.false)

pub settle-requires : goal.settle-requires
settle-requires c = few-open _ _ _ c.requires.0

pub returns-then-r-eq-IMPOSSIBLE_EXIT : goal.returns-then-r-eq-IMPOSSIBLE_EXIT
returns-then-r-eq-IMPOSSIBLE_EXIT c = resume-ended _ _ _ c.requires.0 _ _ ImpossibleExit (stopped impossible_exit) (state_of c.args.state c.args.memory.now) refl (resume-stays _ _ _ c.requires.0 c.args.exit c.requires.1 (rw (c.declared_at.ensures, c.index-p.ensures) at c.if-declared_at-exit.false) _ c.take_exit-r.result _ _ c.index-p.ensures c.unpack_words-z.ensures c.take_exit-r.ensures c.if-r-eq-IMPOSSIBLE_EXIT.true) (rw c.settle.ensures) refl

pub unpack_links-links-requires : goal.unpack_links-links-requires
unpack_links-links-requires c = few-open _ _ _ c.requires.0

pub overflow_sub-r : goal.overflow_sub-r
overflow_sub-r c = resume-high _ _ _ c.requires.0 c.args.exit c.requires.1 (rw (c.declared_at.ensures, c.index-p.ensures) at c.if-declared_at-exit.false) _ c.take_exit-r.result _ _ c.index-p.ensures c.unpack_words-z.ensures c.take_exit-r.ensures c.if-r-eq-IMPOSSIBLE_EXIT.false

pub pack-requires : goal.pack-requires
pack-requires c = resume-packs _ _ _ c.requires.0 c.args.exit c.requires.1 (rw (c.declared_at.ensures, c.index-p.ensures) at c.if-declared_at-exit.false) _ c.take_exit-r.result _ _ c.index-p.ensures c.unpack_words-z.ensures c.take_exit-r.ensures c.if-r-eq-IMPOSSIBLE_EXIT.false _ c.unpack_links-links.ensures

pub returns : goal.returns
returns c = resume-ended _ _ _ c.requires.0 _ _ Resumed resumed _ refl (resume-goes _ _ _ c.requires.0 c.args.exit c.requires.1 (rw (c.declared_at.ensures, c.index-p.ensures) at c.if-declared_at-exit.false) _ c.take_exit-r.result _ _ c.index-p.ensures c.unpack_words-z.ensures c.take_exit-r.ensures c.if-r-eq-IMPOSSIBLE_EXIT.false) (rw (c.pack.ensures, c.unpack_links-links.ensures.links)) refl
