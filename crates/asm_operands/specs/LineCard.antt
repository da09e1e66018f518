-- What an operand looks at of its card: the line's number and bytes. How two values of an EQU are put together.
-- Assumes nothing.
use Rattle.std.specs.Prelude.{ℕ, Bool, List}
use Rattle.base.specs.Test.{if}
use Rattle.base.specs.Lists.{◌at◌}
use Rattle.supplied.specs.Supplied.{supplied_of}
use Rattle.language.specs.Card.{Card}
use Rattle.language.specs.Operation.{empty}
use Rattle.language.specs.Operand.{Outcome, subtracted, summed, supplied_by}

abbrev pub line_card : ℕ → List ℕ → Card
line_card l s =
    record { spot = record { line = l; opened = 0; place = 0; word = 0; external = 0 }; line = s; label = 0; operation = empty }

-- `*`: the value that the machine supplies for the name in the first five bytes
unfoldable pub star_of : List ℕ → Outcome
star_of s = supplied_by (supplied_of (s at 0) (s at 1) (s at 2) (s at 3) (s at 4))

unfoldable pub combined_by : Bool → ℕ → ℕ → Outcome
combined_by minus v w = if minus (subtracted v w) (summed v w)
