-- What the answers of tests that may give up claim.
-- Assumes nothing.
use Rattle.std.specs.Prelude.{◌≡◌, Bool, Option, Some, None}

-- an answer claims that it is the test b; none claims nothing
abbrev pub Claims : Option Bool → Bool → Type 0
Claims (Some a) b = b ≡ a
Claims None b = Unit {0}
