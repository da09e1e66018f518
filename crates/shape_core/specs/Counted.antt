-- Lists in the terms of the code: the exits of a callee, the IFFs of a switch, one IFF of it, and the marks of values.
-- Assumes nothing.
use Rattle.std.specs.Prelude.{ℕ, suc, ◌+◌, ◌%◌, ◌≤◌, ◌≡◌, Bool, true, not, Option, Some, None, List, eqb, ltb, length, get_or}
use Rattle.base.specs.Test.{◌and◌, ◌or◌}
use Rattle.rules.specs.Check.{iffs, switch_list, unlike, value_known}
use Rattle.rules.specs.Table.{size, value, exit_count, Callee, procedure, external, unnamed}

-- the exits that a callee declares
abbrev pub exits_of : List ℕ → Callee → Option ℕ
exits_of t (procedure q) = Some (value t q)
exits_of t (external k) = Some (exit_count t k)
exits_of t unnamed = None

-- r IFFs stand from place p on, all inside the table
pub record Counted (t : List ℕ) (p n r : ℕ) : Type 0 where
  pub all : r ≡ iffs t p (size t)
  pub inside : p + r ≤ n

-- the list of the BSW at p is lawful
unfoldable pub list_ok : List ℕ → ℕ → Bool
list_ok t p = switch_list t p (iffs t (suc p) (size t))

-- the IFF at q has another value than v, or none that is known
unfoldable pub differs_at : List ℕ → ℕ → ℕ → Bool
differs_at t v q = not (value_known t q) or not (eqb (value t q) v)

-- the value of the IFF at q, where it is known, is below the limit and unlike those of the k after it
unfoldable pub fresh_at : List ℕ → ℕ → ℕ → ℕ → Bool
fresh_at t limit q k = not (value_known t q) or (ltb (value t q) limit and unlike t (value t q) (suc q) k)

-- a value whose remainder by 1,024 is not marked is that of no IFF of the k from place q on
pub record Marked (t marks : List ℕ) (q k : ℕ) : Type 0 where
  pub room : 1024 ≤ length marks
  pub clear : (v : ℕ) → get_or marks (v % 1024) 0 ≡ 0 → unlike t v q k ≡ true
