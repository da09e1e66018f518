-- What the parts of a block operation's code say of memory and of the machine's words.
-- Assumes nothing.
use Rattle.std.specs.Prelude.{ℕ, ◌%◌, Bool, List, eqb, set}
use Rattle.base.specs.Test.{◌and◌}
use Rattle.ops.specs.Machine.{cfp_b, XL, XR, WA}
use Rattle.rules.specs.Exec.{chars_fit}

-- n bytes from the addresses a and e on are whole words of memory
unfoldable pub words_fit : List ℕ → ℕ → ℕ → ℕ → Bool
words_fit m a e n = eqb (a % cfp_b) 0 and eqb (e % cfp_b) 0 and chars_fit m a n and chars_fit m e n

-- the words that a block operation leaves: XL, XR, and WA as 0
abbrev pub leaving : ℕ → ℕ → List ℕ → List ℕ
leaving xl xr z = set (set (set z XL xl) XR xr) WA 0
