-- The field rules by the words of the constant table: a format as its word, and the rules of an entry by three such words.
-- Assumes nothing.
use Rattle.std.specs.Prelude.{ℕ, ◌/◌, ◌%◌, ◌^◌, Bool, List, [], eqb, ltb, leb}
use Rattle.base.specs.Test.{◌and◌, if}
use Rattle.ops.specs.Machine.{cfp_m, cfp_n, XR, XS}
use Rattle.ops.specs.Format.{Format, no_kind, place_kind}
use Rattle.ops.specs.Ops.{rows}
use Rattle.rules.specs.Check.{register_ok, value_ok, fields_ok, apart}
use Rattle.rules.specs.Table.{size, field}

-- the word's bit of a kind is set
unfoldable pub takes_kind : ℕ → ℕ → Bool
takes_kind w k = ltb k 24 and eqb (w / 2 ^ k % 2) 1

-- the last index register and the largest value of a format, by the tag of its word: OPC has 5, SHIFT 11
unfoldable pub last_of : ℕ → ℕ
last_of w = if (eqb (w / 2 ^ 24) 5) XR XS

unfoldable pub largest_of : ℕ → ℕ
largest_of w = if (eqb (w / 2 ^ 24) 11) cfp_n cfp_m

-- a word read back as a format, but for its kinds
abbrev pub format_of : ℕ → Format
format_of w = record { tag = w / 2 ^ 24; kinds = []; last_x = last_of w; largest = largest_of w }

-- the rules of an operand and of the third one, by the word of its format
unfoldable pub operand_by : List ℕ → ℕ → ℕ → ℕ → ℕ → Bool
operand_by t w k r v = takes_kind w k and register_ok (format_of w) k r and value_ok t (format_of w) k v

unfoldable pub third_by : List ℕ → ℕ → ℕ → Bool
third_by t w x = if (eqb x 0) (takes_kind w no_kind) (takes_kind w place_kind and leb x (size t))

-- the rules of one entry's operands by the words of its formats
unfoldable pub fields_by : List ℕ → ℕ → ℕ → ℕ → ℕ → Bool
fields_by t p a b d =
    operand_by t a (field t p 1) (field t p 2) (field t p 3) and operand_by t b (field t p 4) (field t p 5) (field t p 6)
    and third_by t d (field t p 7)

-- its first two operands keep their registers apart
abbrev pub apart_at : List ℕ → ℕ → Bool
apart_at t p = apart (field t p 1) (field t p 2) (field t p 4) (field t p 5)

-- the rules of one entry's fields by the words of its formats, and by its row
unfoldable pub entry_by : List ℕ → ℕ → ℕ → ℕ → ℕ → Bool
entry_by t p a b d = fields_by t p a b d and apart_at t p

unfoldable pub entry_ok : List ℕ → ℕ → Bool
entry_ok t p = fields_ok t p rows and apart_at t p
