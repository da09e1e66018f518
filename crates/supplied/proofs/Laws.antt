-- Laws of the supplied names: the constant table of them, that no two are one, and which names are supplied.
-- Assumes nothing.
use Prim.Native.Nat.{ℕ, ◌<◌, ◌^◌}
use Prim.Native.String.{String}
use mathlib.Core.Path.{◌≡◌, refl, ap}
use mathlib.Core.Bool.{Bool}
use mathlib.Core.List.{List, [], ◌∷◌, map}
use lib.Dec.{ltb}
use lib.ListN.{length, get_or}
use Rattle.base.specs.Test.{◌and◌, if, Ok}
use Rattle.base.proofs.Bool.{ok-lt}
use Rattle.ops.specs.Lookup.{first_with, by_cell}
use Rattle.ops.specs.Distinct.{apart}
use Rattle.supplied.specs.Supplied.{Supply, supplies, packed_name, name_of, by_name, no_supply, value_at, supplied_of, supply_cells}
use Rattle.std.specs.Prelude.{Option, Some, None}
use Rattle.ops.proofs.First.{cells-first}
use Rattle.ops.proofs.Every.{every, every-at}

pub supplies-count : length supplies ≡ 45
unfolding supplies
supplies-count = refl

-- no two names are one
pub names_apart : Ok (apart by_name supplies)
unfolding supplies Ok ◌and◌
names_apart = tt

-- a value is below 2 ^ 32
abbrev is_word : ℕ → Supply → Bool
is_word i s = ltb s.value (2 ^ 32)

all_words_lem : Ok (every is_word 0 supplies)
unfolding supplies Ok ◌and◌
all_words_lem = tt

-- each value is a word
pub value-word : (i : ℕ) → i < length supplies → (get_or supplies i no_supply).value < 2 ^ 32
value-word i h = ok-lt _ _ (every-at is_word no_supply supplies all_words_lem i h)

-- a look-up in the constant table of names is one by name
pub names-found : (t : List (List ℕ)) → t ≡ map supply_cells supplies → (a b c d e : ℕ)
    → value_at (first_with by_cell (packed_name a b c d e) 0 t) ≡ supplied_of a b c d e
unfolding supplied_of
names-found t q a b c d e = ap value_at (cells-first supply_cells supplies t q (packed_name a b c d e))

-- a name as it is written
abbrev named : String → Option ℕ
named s = value_at (first_with by_name (name_of s) 0 supplies)

-- CH$LZ is supplied; CH$L$ and the other CFP$ names of the description are not [S The house machine]
pub some-names :
    map named ("CH$LZ" ∷ "CFP$M" ∷ "CFP$R" ∷ "CH$L$" ∷ "CFP$S" ∷ "CFP$U" ∷ "CFP$X" ∷ [])
    ≡ Some 90 ∷ Some 2147483647 ∷ Some 2 ∷ None ∷ None ∷ None ∷ None ∷ []
unfolding supplies if
some-names = refl
