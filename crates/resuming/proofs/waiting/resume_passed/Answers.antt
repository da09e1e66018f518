-- `resuming::waiting::resume_passed` meets its contract: 33 of a state that does not wait, or the resume of one that waits.
use mathlib.Core.Path.{refl}
use Rattle.rules.specs.Number.{not_resumable}
use Rattle.resuming.specs.declared.answers.Answer.TheVariants.{NotResumable}
use Rattle.resuming.proofs.Exited.{resume-awake, resume-refused}
use Rattle.resuming.proofs.waiting.resume_passed.Goals as goal

pub returns : goal.returns
returns c = resume-refused _ _ _ _ _ NotResumable not_resumable refl (resume-awake _ _ _ c.requires _ c.if-state.false) c.declined.ensures
