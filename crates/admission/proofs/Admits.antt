-- What the two checks of a call find, as the rules' verdict.
-- Assumes nothing.
use Prim.Native.Nat.{ℕ}
use mathlib.Core.Path.{◌≡◌, refl, sym, ◌∙◌}
use mathlib.Core.Bool.{Bool, true, false, not}
use mathlib.Core.List.{List}
use borrow.Author.Tests.{not-true, not-false}
use Rattle.base.specs.Test.{if, Ok}
use Rattle.base.proofs.Bool.{passed}
use Rattle.rules.specs.Number.{granted, refused_by, bad_table, bad_state}
use Rattle.rules.specs.Check.{table_ok}
use Rattle.rules.specs.State as Rules
use Rattle.rules.specs.State.{state_ok}
use Rattle.rules.specs.Run.{admitted}

-- the table passed
pub table-passed : (t : List ℕ) (r : Bool) → r ≡ table_ok t → not r ≡ false → Ok (table_ok t)
table-passed t r e h = rw (sym e ∙ not-false r h) passed

-- the table did not pass
pub admit-no-table : (t : List ℕ) (s : Rules.State) (r : Bool) → r ≡ table_ok t → not r ≡ true → refused_by bad_table ≡ admitted t s
unfolding admitted if
admit-no-table t s r e h = rw (sym e ∙ not-true r h) refl

-- the table passed, and the state did or did not
pub admit-granted : (t : List ℕ) (s : Rules.State) (r q : Bool) → r ≡ table_ok t → not r ≡ false → q ≡ state_ok t s → q ≡ true
    → granted ≡ admitted t s
unfolding admitted if
admit-granted t s r q e h f k = rw (sym e ∙ not-false r h, sym f ∙ k) refl

pub admit-no-state : (t : List ℕ) (s : Rules.State) (r q : Bool) → r ≡ table_ok t → not r ≡ false → q ≡ state_ok t s → q ≡ false
    → refused_by bad_state ≡ admitted t s
unfolding admitted if
admit-no-state t s r q e h f k = rw (sym e ∙ not-false r h, sym f ∙ k) refl
