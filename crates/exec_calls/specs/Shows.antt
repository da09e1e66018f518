-- What the code of a call or an exit shows, for all that it is not lent. c: the number of constant words, of which none looks at any.
-- Assumes nothing.
use Rattle.std.specs.Prelude.{ℕ, ◌≡◌, Bool, List, eqb, length}
use Rattle.base.specs.Test.{if}
use Rattle.ops.specs.Class.{Flow}
use Rattle.ops.specs.Ops.{Op, idle}
use Rattle.rules.specs.Number.{trap_number, impossible_exit}
use Rattle.rules.specs.State.{Link}
use Rattle.rules.specs.Control.{state_at, land, send, exit_of}
use Rattle.exec_core.specs.Seen.{seen, open_links, stepped, controls}

-- lent the links, which are l before and l' after, as many words
abbrev pub AnyCore : ℕ → List ℕ → List ℕ → ℕ → List ℕ → Flow → Type 0
AnyCore r l' t b l f = ((c : ℕ) (z m : List ℕ) → seen r z m (open_links l') ≡ controls t b c z m (open_links l) f idle) × (length l' ≡ length l)

-- lent the words and the links
abbrev pub Leaves : ℕ → List ℕ → List ℕ → List ℕ → ℕ → List ℕ → List ℕ → Flow → Type 0
Leaves r z' l' t b z l f =
    ((c : ℕ) (m : List ℕ) → seen r z' m (open_links l') ≡ controls t b c z m (open_links l) f idle) × (length l' ≡ length l)

-- lent all
abbrev pub Cuts : ℕ → List ℕ → List ℕ → List ℕ → ℕ → List ℕ → List ℕ → List ℕ → Flow → Op → Type 0
Cuts r z' l' t b z m l f o = ((c : ℕ) → seen r z' m (open_links l') ≡ controls t b c z m (open_links l) f o) × (length l' ≡ length l)

-- the links after an exit: those of before where it is impossible
unfoldable pub links_after : ℕ → List Link → List Link → List Link
links_after r ls ls' = if (eqb r (trap_number impossible_exit)) ls ls'

-- exit k under the JSR at j is taken, with the words z before and z' after, from any state of these words with the links ls, and with the links ls'
abbrev pub TakesExit : ℕ → List ℕ → List ℕ → ℕ → ℕ → List ℕ → Type 0
TakesExit r z' t j k z =
    (p : ℕ) (w : Bool) (m : List ℕ) (ls ls' : List Link)
    → seen r z' m (links_after r ls ls') ≡ stepped (state_at (record { words = z; mem = m }) p w ls)
    (land t (state_at (record { words = z; mem = m }) p w ls) (record { words = z; mem = m }) (send ls' (exit_of t j k)))
