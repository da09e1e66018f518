-- What the code of a test shows, for any test of the word that operand one holds, or of the words that both hold; and for any memory, where it looks at none.
-- way: the answer for the number that the test hands to control.
-- Assumes nothing.
use Rattle.std.specs.Prelude.{ℕ, ◌≡◌, List, Option, Some, None}
use Rattle.ops.specs.Ops.{Op}
use Rattle.rules.specs.Number.{trap_number, bad_address}
use Rattle.rules.specs.Effect.{After, shown}
use Rattle.rules.specs.Operand.{Operand}
use Rattle.rules.specs.Exec.{tells, compares}
use Rattle.exec_core.specs.Views.{answered, branches}

-- words and memory with the answer that g gives of a word or of two, or with 22 where there is none
abbrev pub told_by : (ℕ → ℕ) → List ℕ → List ℕ → Option ℕ → After
told_by g z m (Some v) = shown (g v) z m
told_by g z m None = shown (trap_number bad_address) z m

abbrev pub compared_by : (ℕ → ℕ → ℕ) → List ℕ → List ℕ → Option (ℕ × ℕ) → After
compared_by g z m (Some (v, w)) = shown (g v w) z m
compared_by g z m None = shown (trap_number bad_address) z m

-- r and the words z' after it are what any test of a, or of a and b, has from the words z and the memory m
abbrev pub Tells : Option ℕ → List ℕ → List ℕ → List ℕ → Operand → Type 0
Tells r z' z m a = (way : ℕ → ℕ) (f : ℕ → ℕ) → told_by (λ v. way (f v)) z' m r ≡ answered way z m (tells z m a f)

abbrev pub Compares : Option (ℕ × ℕ) → List ℕ → List ℕ → List ℕ → Operand → Operand → Type 0
Compares r z' z m a b = (way : ℕ → ℕ) (f : ℕ → ℕ → ℕ) → compared_by (λ v w. way (f v w)) z' m r ≡ answered way z m (compares z m a b f)

-- r is the answer and z' the words after the operation o of the entry at b, which looks at no memory
abbrev pub AnyMemory : ℕ → List ℕ → List ℕ → ℕ → List ℕ → Op → Type 0
AnyMemory r z' t b z o = (c : ℕ) (m : List ℕ) → shown r z' m ≡ branches t b 0 c z m o
