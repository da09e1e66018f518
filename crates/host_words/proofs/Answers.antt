-- What the checks find, as the number that the host sees.
-- Assumes nothing.
use Prim.Native.Nat.{ℕ}
use mathlib.Core.Path.{◌≡◌, refl, sym, ap, ◌∙◌}
use mathlib.Core.Bool.{Bool, true, false, not}
use mathlib.Core.List.{List}
use borrow.Author.Tests.{not-true, not-false}
use Rattle.base.specs.Test.{if}
use Rattle.rules.specs.Number.{Verdict, granted, refused_by, verdict_number, bad_state}
use Rattle.rules.specs.Check.{table_ok}
use Rattle.rules.specs.State.{state_ok}
use Rattle.rules.specs.Run.{admitted}
use Rattle.states.specs.Views.{state_of}
use Rattle.states.specs.declared.State.{State}
use Rattle.admission.proofs.Admits.{admit-granted, admit-no-state}
use Rattle.host_claims.specs.Answer.{table_number, admitted_words, state_number}
use Rattle.lent.specs.Lent.{lawful, state_from, code_from}

-- the table passed, or did not
pub number_passed : (t : List ℕ) (r : Bool) → r ≡ table_ok t → r ≡ true → 0 ≡ table_number t
unfolding table_number if
number_passed t r e h = rw (sym e ∙ h) refl

pub number-failed : (t : List ℕ) (r : Bool) → r ≡ table_ok t → r ≡ false → 30 ≡ table_number t
unfolding table_number if
number-failed t r e h = rw (sym e ∙ h) refl

-- the table did not pass
pub words-no-table : (t ws mem : List ℕ) (r : Bool) → r ≡ table_ok t → not r ≡ true → 30 ≡ state_number t ws mem
unfolding state_number admitted_words if
words-no-table t ws mem r e h = rw (sym e ∙ not-true r h) refl

-- the table passed, and the words are no state
pub words-no-words : (t ws mem : List ℕ) (r q : Bool) → r ≡ table_ok t → not r ≡ false → q ≡ lawful ws → not q ≡ true → 31 ≡ state_number t ws mem
unfolding state_number admitted_words if
words-no-words t ws mem r q e h f k = rw (sym e ∙ not-false r h, sym f ∙ not-true q k) refl

-- the table passed, and the words are a state: its own verdict
words-verdict : (t ws mem : List ℕ) (r q : Bool) (v : Verdict) → r ≡ table_ok t → not r ≡ false → q ≡ lawful ws → not q ≡ false
    → v ≡ admitted t (state_from ws mem) → verdict_number v ≡ state_number t ws mem
unfolding state_number admitted_words if
words-verdict t ws mem r q v e h f k g = ap verdict_number g ∙ rw (sym e ∙ not-false r h, sym f ∙ not-false q k) refl

pub words-granted : (t ws mem : List ℕ) (s : State) (r q b : Bool) → r ≡ table_ok t → not r ≡ false → q ≡ lawful ws → not q ≡ false
    → s ≡ code_from ws → b ≡ state_ok t (state_of s mem) → b ≡ true → 0 ≡ state_number t ws mem
words-granted t ws mem s r q b e h f k c g j =
    words-verdict t ws mem r q granted e h f k (admit-granted t (state_from ws mem) r b e h (rw c at g) j)

pub words-no-state : (t ws mem : List ℕ) (s : State) (r q b : Bool) → r ≡ table_ok t → not r ≡ false → q ≡ lawful ws → not q ≡ false
    → s ≡ code_from ws → b ≡ state_ok t (state_of s mem) → b ≡ false → 31 ≡ state_number t ws mem
words-no-state t ws mem s r q b e h f k c g j =
    words-verdict t ws mem r q (refused_by bad_state) e h f k (admit-no-state t (state_from ws mem) r b e h (rw c at g) j)
