-- A table of no entries, one constant and three working words, the first and the last of them fresh: words of memory as started, supplied and hidden. Computed.
-- Assumes nothing.
use Prim.Native.Nat.{ℕ}
use mathlib.Core.Path.{◌≡◌, refl}
use mathlib.Core.List.{List, [], ◌∷◌}
use Rattle.rules.specs.Table.{constants, externals, fresh_at, fresh_count, size, start_word, workings}
use Rattle.rules.specs.Start.{filled, initial, loaded, plain, refreshed, supplied, warm}
use Rattle.rules.specs.Snapshot.{hidden}

abbrev table : List ℕ
table = 0 ∷ 1 ∷ 3 ∷ 2 ∷ 0 ∷ 0 ∷ 0 ∷ 0 ∷ 4 ∷ 12 ∷ 20 ∷ 21 ∷ 22 ∷ 23 ∷ []

abbrev memory : List ℕ
memory = 10 ∷ 11 ∷ 12 ∷ 13 ∷ 14 ∷ 15 ∷ []

-- each fresh word holds the host's own word for it
pub supplied-in-order : refreshed table (5 ∷ 6 ∷ []) memory ≡ 10 ∷ 5 ∷ 12 ∷ 6 ∷ 14 ∷ 15 ∷ []
unfolding refreshed supplied fresh_count fresh_at size
supplied-in-order = refl

-- a file shows neither
pub hidden-both : hidden table memory ≡ 10 ∷ 0 ∷ 12 ∷ 0 ∷ 14 ∷ 15 ∷ []
unfolding refreshed supplied fresh_count fresh_at size
hidden-both = refl

-- the plain start clears what is behind the program's four words, the warm one leaves it [02 Wish 6]
pub begun-plain : loaded table (5 ∷ 6 ∷ []) (initial plain memory) ≡ 20 ∷ 5 ∷ 22 ∷ 6 ∷ 0 ∷ 0 ∷ []
unfolding loaded filled refreshed supplied constants workings externals fresh_count fresh_at size start_word
begun-plain = refl

pub begun-warm : loaded table (5 ∷ 6 ∷ []) (initial warm memory) ≡ 20 ∷ 5 ∷ 22 ∷ 6 ∷ 14 ∷ 15 ∷ []
unfolding loaded filled refreshed supplied constants workings externals fresh_count fresh_at size start_word
begun-warm = refl
