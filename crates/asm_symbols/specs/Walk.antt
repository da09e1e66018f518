-- The label fields of a name from a symbol on, and a walk over them by the numbers of sorts.
-- Assumes nothing.
use Rattle.std.specs.Prelude.{ℕ, ◌+◌, ◌*◌, ◌-◌, ◌<◌, ◌≤◌, ◌≡◌, Bool, true, false, List, [], ◌∷◌, eqb, leb, get_or}
use Rattle.base.specs.Test.{◌and◌, ◌or◌, if}
use Rattle.language.specs.Symbol.{Meaning, Sort, Symbol, above, bare, entry, equal, external, fields_named, global, internal, labelless, lacking, place_of, plain, procedure, returns, routine, word}
use Rattle.asm_types.specs.Views.{symbols_from}

-- the fields of name k from symbol i on; those above line l
unfoldable pub named_from : List ℕ → ℕ → ℕ → ℕ → List Symbol
named_from xs n i k = fields_named k (symbols_from xs i (n - i))

unfoldable pub above_from : List ℕ → ℕ → ℕ → ℕ → ℕ → List Symbol
above_from xs n i k l = above l (named_from xs n i k)

-- r is the first symbol of name k from symbol i on, or n
pub record Next (xs : List ℕ) (n i k r : ℕ) : Type 0 where
  pub onward : i ≤ r
  pub inside : r ≤ n
  pub same : named_from xs n i k ≡ named_from xs n r k
  pub here : r < n → get_or xs (5 * r) 0 ≡ k

-- and stands above line l
pub record NextAbove (xs : List ℕ) (n i k l r : ℕ) : Type 0 where
  pub inside : r ≤ n
  pub same : above_from xs n i k l ≡ above_from xs n r k l
  pub here : r < n → get_or xs (5 * r) 0 ≡ k
  pub over : r < n → get_or xs (5 * r + 1) 0 < l

-- the number of a sort, and sorts from one number to another
abbrev pub sort_code : Sort → ℕ
sort_code bare = 0
sort_code external = 1
sort_code internal = 2
sort_code routine = 3
sort_code global = 4
sort_code equal = 5
sort_code word = 6
sort_code entry = 7
sort_code procedure = 8
sort_code returns = 9
sort_code plain = 10
sort_code labelless = 11

unfoldable pub among : ℕ → ℕ → ℕ → Bool
among lo hi x = leb lo x and leb x hi

-- the sort of a declaration that asks for a place: INP, INR or GLB
unfoldable pub declares : ℕ → Bool
declares a = among 2 4 a

-- the symbols from the first whose sort lies from lo to hi
unfoldable pub from_sort : ℕ → ℕ → List Symbol → List Symbol
from_sort lo hi [] = []
from_sort lo hi (x ∷ xs) = if (among lo hi (sort_code x.sort)) (x ∷ xs) (from_sort lo hi xs)

abbrev pub some : List Symbol → Bool
some [] = false
some (x ∷ xs) = true

-- r is the first symbol of name k from symbol i on whose sort lies from lo to hi, or n
pub record NextOf (xs : List ℕ) (n i k lo hi r : ℕ) : Type 0 where
  pub inside : r ≤ n
  pub same : from_sort lo hi (named_from xs n i k) ≡ named_from xs n r k
  pub here : r < n → get_or xs (5 * r) 0 ≡ k
  pub least : r < n → lo ≤ get_or xs (5 * r + 2) 0

-- what the first of a list of places means, with the sort of what declares it
abbrev pub placed_first : List Symbol → Sort → Bool → Meaning
placed_first [] d g = lacking d g
placed_first (x ∷ xs) d g = place_of x.sort x.value g

-- `pairs` by the numbers of sorts; two fields that a third may follow, an INR and a GLB
unfoldable pub pairs_by : ℕ → ℕ → Bool
pairs_by a b =
    if (eqb a 2) (eqb b 8)
    (if (eqb a 3) (if (eqb b 4) true (eqb b 9)) (if (eqb a 4) (if (eqb b 3) true (among 7 10 b)) false))

unfoldable pub two_by : ℕ → ℕ → Bool
two_by a b = if (eqb a 3) (eqb b 4) (if (eqb a 4) (eqb b 3) false)
