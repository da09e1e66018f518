-- Where the text of a DTC line is.
-- Assumes nothing.
use Rattle.std.specs.Prelude.{ℕ, ◌-◌, ◌≤◌, ◌≡◌, List, drop, length, take}
use Rattle.language.specs.Form.{quoted}
use Rattle.asm_forms.specs.declared.texts.Span.{Span}

-- the part of line s is its text
pub record Quotes (s : List ℕ) (r : Span) : Type 0 where
  pub from_le : r.from ≤ r.to
  pub to_le : r.to ≤ length s
  pub text : take (r.to - r.from) (drop r.from s) ≡ quoted s
