-- The numbers of the real operations that compute, test or convert, the largest first [M 5] [M 8.5] [M 8.6].
-- Assumes nothing.
use Rattle.std.specs.Prelude.{ℕ, List, [], ◌∷◌}

abbrev pub real_numbers : List ℕ
real_numbers = 806 ∷ 805 ∷ 515 ∷ 514 ∷ 513 ∷ 512 ∷ 511 ∷ 510 ∷ 509 ∷ 506 ∷ 505 ∷ 504 ∷ 503 ∷ []
