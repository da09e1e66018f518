-- The code's real number as the definition of crate `language`.
-- Assumes nothing.
use Rattle.std.specs.Prelude.{Option, Some, None}
use Rattle.language.specs.Decimal as Decimals
use Rattle.asm_reals.specs.declared.Decimal.{Decimal}

abbrev pub decimal_view : Option Decimal → Decimals.Decimal
decimal_view (Some d) = Decimals.written d.negative d.number d.after
decimal_view None = Decimals.unwritten
