-- The names that `EQU *` takes, each with its value, and no other [S The house machine].
-- Assumes nothing.
use Rattle.std.specs.Prelude.{ℕ, ◌+◌, ◌*◌, List, [], ◌∷◌, get_or, Option, Some, None}
use Prim.Native.Char.{code}
use Prim.Native.String.{String, char_at}
use Rattle.ops.specs.Machine.{cfp_a, cfp_b, cfp_c, cfp_f, cfp_i, cfp_m, cfp_n, cfp_r, ch_bl, ch_d0, ch_d9, ch_la}
use Rattle.ops.specs.Lookup.{first_with}

pub record Supply : Type 0 where
  pub name : String
  pub value : ℕ

abbrev supply : String → ℕ → Supply
supply s v = record { name = s; value = v }

unfoldable pub supplies : List Supply
supplies =
    supply "CFP$A" cfp_a
    ∷ supply "CFP$B" cfp_b
    ∷ supply "CFP$C" cfp_c
    ∷ supply "CFP$F" cfp_f
    ∷ supply "CFP$I" cfp_i
    ∷ supply "CFP$M" cfp_m
    ∷ supply "CFP$N" cfp_n
    ∷ supply "CFP$R" cfp_r
    ∷ supply "CH$BL" ch_bl
    ∷ supply "CH$D0" ch_d0
    ∷ supply "CH$D1" (ch_d0 + 1)
    ∷ supply "CH$D2" (ch_d0 + 2)
    ∷ supply "CH$D3" (ch_d0 + 3)
    ∷ supply "CH$D4" (ch_d0 + 4)
    ∷ supply "CH$D5" (ch_d0 + 5)
    ∷ supply "CH$D6" (ch_d0 + 6)
    ∷ supply "CH$D7" (ch_d0 + 7)
    ∷ supply "CH$D8" (ch_d0 + 8)
    ∷ supply "CH$D9" ch_d9
    ∷ supply "CH$LA" ch_la
    ∷ supply "CH$LB" (ch_la + 1)
    ∷ supply "CH$LC" (ch_la + 2)
    ∷ supply "CH$LD" (ch_la + 3)
    ∷ supply "CH$LE" (ch_la + 4)
    ∷ supply "CH$LF" (ch_la + 5)
    ∷ supply "CH$LG" (ch_la + 6)
    ∷ supply "CH$LH" (ch_la + 7)
    ∷ supply "CH$LI" (ch_la + 8)
    ∷ supply "CH$LJ" (ch_la + 9)
    ∷ supply "CH$LK" (ch_la + 10)
    ∷ supply "CH$LL" (ch_la + 11)
    ∷ supply "CH$LM" (ch_la + 12)
    ∷ supply "CH$LN" (ch_la + 13)
    ∷ supply "CH$LO" (ch_la + 14)
    ∷ supply "CH$LP" (ch_la + 15)
    ∷ supply "CH$LQ" (ch_la + 16)
    ∷ supply "CH$LR" (ch_la + 17)
    ∷ supply "CH$LS" (ch_la + 18)
    ∷ supply "CH$LT" (ch_la + 19)
    ∷ supply "CH$LU" (ch_la + 20)
    ∷ supply "CH$LV" (ch_la + 21)
    ∷ supply "CH$LW" (ch_la + 22)
    ∷ supply "CH$LX" (ch_la + 23)
    ∷ supply "CH$LY" (ch_la + 24)
    ∷ supply "CH$LZ" (ch_la + 25)
    ∷ []

-- five characters as one number, the first in the highest byte
abbrev pub packed_name : ℕ → ℕ → ℕ → ℕ → ℕ → ℕ
packed_name a b c d e = 4294967296 * a + 16777216 * b + 65536 * c + 256 * d + e

abbrev pub name_of : String → ℕ
name_of s = packed_name (code (char_at s 0)) (code (char_at s 1)) (code (char_at s 2)) (code (char_at s 3)) (code (char_at s 4))

abbrev pub by_name : Supply → ℕ
by_name s = name_of s.name

-- what stands past the last name
abbrev pub no_supply : Supply
no_supply = record { name = ""; value = 0 }

abbrev pub value_at : Option ℕ → Option ℕ
value_at (Some i) = Some (get_or supplies i no_supply).value
value_at None = None

-- the value of a name, or that it is not supplied
unfoldable pub supplied_of : ℕ → ℕ → ℕ → ℕ → ℕ → Option ℕ
supplied_of a b c d e = value_at (first_with by_name (packed_name a b c d e) 0 supplies)

-- a row of the constant table: name, value
abbrev pub supply_cells : Supply → List ℕ
supply_cells s = name_of s.name ∷ s.value ∷ []
