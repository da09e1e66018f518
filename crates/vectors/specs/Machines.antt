-- The words of the two states that are frozen, as a host lends them.
-- Assumes nothing.
use Rattle.std.specs.Prelude.{ℕ, List, [], ◌∷◌, ◌++◌, replicate}

-- XL XR XS WA WB WC IA, flag, place, waiting, count of links, 256 links, RA's two words and its flag
unfoldable pub waiting_words : List ℕ
waiting_words = 764 ∷ 0 ∷ 1024 ∷ 0 ∷ 3 ∷ 0 ∷ 0 ∷ 0 ∷ 3 ∷ 1 ∷ 0 ∷ replicate 259 0

unfoldable pub called_words : List ℕ
called_words = (1 ∷ 2 ∷ 3 ∷ 4 ∷ 5 ∷ 6 ∷ 7 ∷ 1 ∷ 3 ∷ 0 ∷ 2 ∷ 0 ∷ 3 ∷ []) ++ replicate 254 0 ++ 8 ∷ 1073217536 ∷ 1 ∷ []
