-- The shape rules of one place: those that look at other places.
-- Assumes nothing.
use Rattle.std.specs.Prelude.{ℕ, Bool, not, List}
use Rattle.base.specs.Test.{◌and◌, ◌or◌}
use Rattle.rules.specs.Check.{holds, class_rules, starts_section, is_outside}
use Rattle.rules.specs.Table.{class_at}

unfoldable pub shape_ok : List ℕ → ℕ → Bool
shape_ok t p = (not (starts_section t p) or is_outside t p) and holds (class_rules t p (class_at t p))
