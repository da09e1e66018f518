-- What an operand gives, as the code holds it; a place is over no limit of a word.
-- Assumes nothing.
use Rattle.std.specs.Prelude.{ℕ, ◌≤◌, ◌≡◌}
use Rattle.ops.specs.Class.{Beside, nothing, text, typed}
use Rattle.ops.specs.Format.{place_kind}
use Rattle.language.specs.Operand.{Outcome, awaits, gives, kind_of, misfits, register_in, unnamed, value_in}
use Rattle.asm_types.specs.declared.Given.{Given}
use Rattle.asm_symbols.specs.Symbolic.{most_places}

-- g holds kind, register and value of o
pub record FieldsOf (o : Outcome) (g : Given) : Type 0 where
  pub kind_is : g.kind ≡ kind_of o
  pub reg_is : g.reg ≡ register_in o
  pub val_is : g.val ≡ value_in o

-- a place that o gives is within its limit
abbrev pub PlaceFits : Outcome → Type 0
PlaceFits (gives k r v) = k ≡ place_kind → v ≤ most_places
PlaceFits awaits = Unit {0}
PlaceFits misfits = Unit {0}
PlaceFits unnamed = Unit {0}

-- the operands of a card that are no operands of its entry
abbrev pub type_count : Beside → ℕ
type_count nothing = 0
type_count typed = 1
type_count text = 0
