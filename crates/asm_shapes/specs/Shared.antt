-- The rules that places of all classes share, beside the fault of the others [S Shape rules]: by laws of this crate the rest of
-- `place_rules`, and the whole of `loose_rules`.
-- Assumes nothing.
use Rattle.std.specs.Prelude.{ℕ, Bool, not, List}
use Rattle.base.specs.Test.{◌or◌, if}
use Rattle.rules.specs.Check.{is_outside, smaller, starts_section}
use Rattle.rules.specs.Number.{bad_shape, fault_number}
use Rattle.entries.specs.Coded.{apart_at}

-- the fault f, or the smaller of it and 7 where a shape rule is broken
abbrev pub beside : Bool → ℕ → ℕ
beside b f = if b f (smaller (fault_number bad_shape) f)

-- the fault of a place, where f is that by its class
unfoldable pub shared : List ℕ → ℕ → ℕ → ℕ
shared t p f = beside (apart_at t p) (beside (not (starts_section t p) or is_outside t p) f)
