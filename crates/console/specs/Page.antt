-- A page with a text put into it, as much of it as fits.
-- Assumes nothing.
use Rattle.std.specs.Prelude.{ℕ, ◌+◌, ◌-◌, min, ◌≡◌, List, length}
use Rattle.std.proofs.Math.Seq.{paste}

-- how many bytes of the text fit from byte at on
abbrev pub fitting : List ℕ → ℕ → List ℕ → ℕ
fitting page at text = min (length text) (length page - at)

-- the byte behind the text, and the page with the text in it
pub record Puts (page : List ℕ) (at : ℕ) (text : List ℕ) (r : ℕ) (left : List ℕ) : Type 0 where
  pub behind : r ≡ at + fitting page at text
  pub holds : left ≡ paste page at text (fitting page at text)
