-- What the code of a control operation shows, for all that it is not lent. c: the number of constant words, of which none looks at any.
-- Assumes nothing.
use Rattle.std.specs.Prelude.{ℕ, ◌≡◌, List}
use Rattle.ops.specs.Class.{Flow}
use Rattle.ops.specs.Ops.{Op, idle}
use Rattle.rules.specs.State.{Link}
use Rattle.rules.specs.Effect.{shown}
use Rattle.exec_core.specs.Views.{does}
use Rattle.exec_core.specs.Seen.{seen, controls}

-- lent the table alone
abbrev pub AnyState : ℕ → List ℕ → ℕ → Flow → Type 0
AnyState r t b f = (c : ℕ) (z m : List ℕ) (ls : List Link) → seen r z m ls ≡ controls t b c z m ls f idle

-- lent the words, which are z before and z' after
abbrev pub AnyMemory : ℕ → List ℕ → List ℕ → ℕ → List ℕ → Flow → Op → Type 0
AnyMemory r z' t b z f o = (c : ℕ) (m : List ℕ) (ls : List Link) → seen r z' m ls ≡ controls t b c z m ls f o

-- lent the words and memory
abbrev pub AnyLinks : ℕ → List ℕ → List ℕ → ℕ → List ℕ → List ℕ → Flow → Op → Type 0
AnyLinks r z' t b z m f o = (c : ℕ) (ls : List Link) → seen r z' m ls ≡ controls t b c z m ls f o

-- LEI, which goes on
abbrev pub Loads : ℕ → List ℕ → List ℕ → ℕ → List ℕ → Op → Type 0
Loads r z' t b z o = (c : ℕ) (m : List ℕ) → shown r z' m ≡ does t b 0 c z m o
