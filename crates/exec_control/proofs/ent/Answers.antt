use Prim.Native.Nat.{ℕ}
use mathlib.Core.Path.{ap}
use Rattle.exec_core.specs.Seen.{seen}
use Rattle.exec_calls.proofs.Places.{on-is}
use Rattle.exec_control.proofs.ent.Goals as goal

pub returns : goal.returns
returns c = λ k z m ls. ap (λ (r : ℕ). seen r z m ls) (on-is _ _ c.requires.starts)
