-- Every format of an operand is what its word is read as: one computed test over the operation table and the assembly operations.
-- Assumes nothing.
use Prim.Native.Nat.{ℕ, zero, suc, ◌/◌, ◌^◌, ◌<◌, ◌≤◌}
use mathlib.Core.Path.{◌≡◌, refl, sym, ap, subst, ◌∙◌}
use mathlib.Core.Bool.{Bool, true, false}
use mathlib.Core.List.{List, [], ◌∷◌}
use mathlib.Core.Logic.{◌⊎◌, ⊎_elim}
use native.Mathlib.Omega.{arith}
use borrow.Author.Tests.{ltb-false, ltb-true}
use lib.Dec.{eqb, ltb}
use lib.ListN.{length, get_or, get_or-eq_default}
use Rattle.base.specs.Test.{◌and◌, ◌or◌, if, Ok}
use Rattle.base.specs.Lists.{same}
use Rattle.base.proofs.Bool.{and_l, and_r, ok-eq}
use Rattle.ops.specs.Machine.{cfp_m}
use Rattle.ops.specs.Format.{Format, NONE, format_word}
use Rattle.ops.specs.Ops.{Row, rows}
use Rattle.ops.specs.Lookup.{no_row, row_at}
use Rattle.ops.proofs.Every.{every, every-at}
use Rattle.ops.proofs.Rows.{rows-count}
use Rattle.language.specs.Card.{Card}
use Rattle.language.specs.Form.{Form}
use Rattle.language.specs.Symbol.{Symbol}
use Rattle.language.specs.Operand.{operand_of}
use Rattle.language.specs.Operation.{Assembly, DAC, DBC, DIC, DRC, DTC, EJC, END, EQU, EXP, GLB, INP, INR, Operation, SEC, TTL, assembles, assembly_row, empty, formats_of, malformed, operates, row_formats, unknown}
use Rattle.asm_types.specs.Views.{cut_form}
use Rattle.asm_values.specs.Read.{format_of, has_bit, kinds_from, largest_of, last_of}
use Rattle.asm_operands.specs.LineCard.{line_card}
use Rattle.asm_operands.proofs.Laws.{cut-operand, line-card}

-- two formats are equal, as a test
same_format : Format → Format → Bool
same_format f g = eqb f.tag g.tag and same f.kinds g.kinds and eqb f.last_x g.last_x and eqb f.largest g.largest

same-eq : (xs ys : List ℕ) → Ok (same xs ys) → xs ≡ ys
unfolding same Ok
same-eq [] [] h = refl
same-eq [] (y ∷ ys) h = absurd h
same-eq (x ∷ xs) [] h = absurd h
same-eq (x ∷ xs) (y ∷ ys) h = rw (ok-eq x y (and_l _ _ h), same-eq xs ys (and_r _ _ h)) refl

made : ℕ → List ℕ → ℕ → ℕ → Format
made g ks x v = record { tag = g; kinds = ks; last_x = x; largest = v }

format-eq : (f g : Format) → Ok (same_format f g) → f ≡ g
unfolding same_format made
format-eq f g h =
    let a : f.tag ≡ g.tag = ok-eq _ _ (and_l _ _ h) in
    let b : f.kinds ≡ g.kinds = same-eq _ _ (and_l _ _ (and_r _ _ h)) in
    let d : f.last_x ≡ g.last_x = ok-eq _ _ (and_l _ _ (and_r _ _ (and_r _ _ h))) in
    let e : f.largest ≡ g.largest = ok-eq _ _ (and_r _ _ (and_r _ _ (and_r _ _ h))) in
    let q : made f.tag f.kinds f.last_x f.largest ≡ made g.tag g.kinds g.last_x g.largest = rw (a, b, d, e) refl in
    q

-- a format is what its word is read as
abbrev pub ReadsBack : Format → Type 0
ReadsBack f = format_of (format_word f) ≡ f

reads_back : Format → Bool
reads_back f = same_format (format_of (format_word f)) f

reads-back : (f : Format) → Ok (reads_back f) → ReadsBack f
unfolding reads_back
reads-back f h = format-eq _ f h

all_read : List Format → Bool
all_read [] = true
all_read (f ∷ fs) = reads_back f and all_read fs

all-at : (fs : List Format) → Ok (all_read fs) → (j : ℕ) → j < length fs → ReadsBack (get_or fs j NONE)
unfolding all_read
all-at [] h j g = absurd (omega arith)
all-at (f ∷ fs) h zero g = reads-back f (and_l _ _ h)
all-at (f ∷ fs) h (suc j) g = all-at fs (and_r _ _ h) j (omega arith)

-- the three formats of a row, and those of its card
row_read : ℕ → Row → Bool
row_read i r = (reads_back r.one and reads_back r.two and reads_back r.three) and all_read (row_formats r)

rows-read : Ok (every row_read 0 rows)
unfolding rows Ok ◌and◌ ◌or◌ if same same_format reads_back all_read row_read has_bit kinds_from last_of largest_of
rows-read = tt

none_read : Ok (row_read 0 no_row)
unfolding Ok ◌and◌ ◌or◌ if same same_format reads_back all_read row_read has_bit kinds_from last_of largest_of
none_read = tt

assembly-read : (a : Assembly) → Ok (all_read (assembly_row a).formats)
unfolding Ok ◌and◌ ◌or◌ if same same_format reads_back all_read has_bit kinds_from last_of largest_of
assembly-read SEC = tt
assembly-read END = tt
assembly-read TTL = tt
assembly-read EJC = tt
assembly-read EXP = tt
assembly-read INP = tt
assembly-read INR = tt
assembly-read GLB = tt
assembly-read EQU = tt
assembly-read DAC = tt
assembly-read DIC = tt
assembly-read DRC = tt
assembly-read DBC = tt
assembly-read DTC = tt

row_read_lem : (i : ℕ) → Ok (row_read 0 (row_at i))
unfolding row_read
row_read_lem i = go (ltb i (length rows)) refl
  where
    go : (b : Bool) → ltb i (length rows) ≡ b → Ok (row_read 0 (row_at i))
    go true e = every-at row_read no_row rows rows-read i (ltb-true i (length rows) e)
    go false e =
        let q : row_at i ≡ no_row = get_or-eq_default rows no_row (ltb-false i (length rows) e) in
        subst (λ (r : Row). Ok (row_read 0 r)) (sym q) none_read

-- the formats of a row of the operation table
pub record RowReads (r : Row) : Type 0 where
  pub one_read : ReadsBack r.one
  pub two_read : ReadsBack r.two
  pub three_read : ReadsBack r.three

pub row_reads : (i : ℕ) → RowReads (row_at i)
unfolding row_read
row_reads i =
    let h = and_l _ _ (row_read_lem i) in
    record {
      one_read = reads-back _ (and_l _ _ h);
      two_read = reads-back _ (and_l _ _ (and_r _ _ h));
      three_read = reads-back _ (and_r _ _ (and_r _ _ h));
    }

-- the formats of the operands that a card of any operation writes
formats-read : (o : Operation) → Ok (all_read (formats_of o))
unfolding formats_of all_read Ok row_read
formats-read empty = tt
formats-read malformed = tt
formats-read unknown = tt
formats-read (assembles a) = assembly-read a
formats-read (operates i) = and_r _ _ (row_read_lem i)

pub format_read : (o : Operation) (j : ℕ) → j < length (formats_of o) → ReadsBack (get_or (formats_of o) j NONE)
format_read o j h = all-at (formats_of o) (formats-read o) j h

-- a number that is cut off gives the same in every format that is read
largest-le : (g : ℕ) → largest_of g ≤ cfp_m
unfolding largest_of if
largest-le g = go (eqb g 11)
  where
    go : (b : Bool) → if b 32 2147483647 ≤ cfp_m
    go true = omega arith
    go false = omega arith

pub cut-read : (all : List Symbol) (c : Card) (w : ℕ) (o : Form) → operand_of all c (format_of w) (cut_form o) ≡ operand_of all c (format_of w) o
cut-read all c w o = cut-operand all c (format_of w) (largest-le (w / 2 ^ 24)) o

-- what the code answers for a card's operand, by the word of its format and its form with numbers cut off
pub operand_read : (all : List Symbol) (c : Card) (f : Format) (o : Form) → ReadsBack f
    → operand_of all (line_card c.spot.line c.line) (format_of (format_word f)) (cut_form o) ≡ operand_of all c f o
operand_read all c f o h =
    sym (line-card all c (format_of (format_word f)) (cut_form o))
    ∙ cut-read all c (format_word f) o
    ∙ ap (λ (g : Format). operand_of all c g o) h
