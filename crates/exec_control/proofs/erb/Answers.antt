use mathlib.Core.Path.{refl}
use Rattle.exec_calls.proofs.Places.{value-at}
use Rattle.exec_control.proofs.erb.Goals as goal

pub returns : goal.returns
returns c = λ k m ls. rw (c.to_errors.ensures, value-at _ _ _ c.requires.starts) refl
