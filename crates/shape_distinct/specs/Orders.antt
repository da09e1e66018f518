-- What judging an order of IFFs asks and claims: the known value of one, and the marks of those that were seen.
-- Assumes nothing.
use Rattle.std.specs.Prelude.{ℕ, ◌+◌, ◌*◌, ◌<◌, ◌≡◌, Bool, true, false, List, get_or}

-- the IFF at q has the known value v
pub record Valued (t : List ℕ) (q v : ℕ) : Type 0 where
  pub kind : get_or t (8 + 8 * q + 1) 0 ≡ 1
  pub same : v ≡ get_or t (8 + 8 * q + 3) 0

-- an answer that the first k marks are set; false claims nothing
abbrev pub Seen : Bool → List ℕ → ℕ → Type 0
Seen true marks k = (i : ℕ) → i < k → get_or marks i 0 ≡ 0 → ⊥
Seen false marks k = Unit {0}
