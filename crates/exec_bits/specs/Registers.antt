-- What code that stores to registers alone shows, whatever the number c of constant words is, and the memory where it looks at none.
-- Assumes nothing.
use Rattle.std.specs.Prelude.{ℕ, ◌≡◌, List}
use Rattle.ops.specs.Ops.{Op}
use Rattle.rules.specs.Effect.{shown}
use Rattle.rules.specs.Operand.{Operand, got, fetch_of, store_of}
use Rattle.exec_core.specs.Views.{answered, does}

-- the operand o holds v
abbrev pub Holds : List ℕ → Operand → ℕ → Type 0
Holds z o v = (m : List ℕ) → fetch_of z m o ≡ got v

-- r is the answer `on` and z' the words once v is stored to o, which is a register and so ends by nothing
abbrev pub Puts : ℕ → List ℕ → ℕ → List ℕ → Operand → ℕ → Type 0
Puts r z' on z o v = (c : ℕ) (old m : List ℕ) → shown r z' m ≡ answered (λ j. on) old m (store_of c z m o v 0)

-- r is the answer and z' the words after the operation o of the entry at b
abbrev pub AnyMemory : ℕ → List ℕ → List ℕ → ℕ → List ℕ → Op → Type 0
AnyMemory r z' t b z o = (c : ℕ) (m : List ℕ) → shown r z' m ≡ does t b 0 c z m o

-- the same of an operation that reads the memory m
abbrev pub AnyConstants : ℕ → List ℕ → List ℕ → ℕ → List ℕ → List ℕ → Op → Type 0
AnyConstants r z' t b z m o = (c : ℕ) → shown r z' m ≡ does t b 0 c z m o

-- r is the answer of the operation o of the entry at b, which looks at nothing
abbrev pub Idle : ℕ → ℕ → Op → Type 0
Idle r b o = (t z m : List ℕ) (c : ℕ) → shown r z m ≡ does t b 0 c z m o
