-- What code that reads memory and stores to registers alone shows, whatever the number c of constant words is.
-- Assumes nothing.
use Rattle.std.specs.Prelude.{ℕ, ◌≡◌, List}
use Rattle.ops.specs.Ops.{Op}
use Rattle.rules.specs.Effect.{shown}
use Rattle.exec_core.specs.Views.{does}

-- r is the answer and z' the words after the operation o of the entry at b
abbrev pub AnyConstants : ℕ → List ℕ → List ℕ → ℕ → List ℕ → List ℕ → Op → Type 0
AnyConstants r z' t b z m o = (c : ℕ) → shown r z' m ≡ does t b 0 c z m o
