-- The words of an operation's formats are those that the cells of its row give, and these tell how many there are: one test over each list.
-- Assumes nothing.
use Prim.Native.Nat.{ℕ, zero, suc, ◌-◌, ◌<◌, ◌≤◌}
use native.Mathlib.Omega.{arith}
use mathlib.Core.Path.{◌≡◌, refl, sym, ap, subst, ◌∙◌}
use mathlib.Core.Bool.{Bool, true, false, not}
use mathlib.Core.List.{List, [], map}
use lib.Dec.{eqb, ltb, T_not}
use lib.ListN.{get_or-eq_default, get_or, length}
use borrow.Author.Tests.{eq-eqb, eqb-true, le-leb, ltb-false, ltb-true}
use Rattle.base.specs.Test.{◌and◌, if, Ok}
use Rattle.base.proofs.Bool.{and_l, and_r, by-if, ok-eq}
use Rattle.ops.specs.Assembly.{assembly_cells}
use Rattle.ops.specs.Format.{Format, NONE, format_word}
use Rattle.ops.specs.Lookup.{no_row, row_at}
use Rattle.ops.specs.Ops.{Row, cells_of, rows}
use Rattle.ops.proofs.Every.{every, every-at}
use Rattle.ops.proofs.First.{cells_at}
use Rattle.ops.proofs.Rows.{rows-count, table-row}
use Rattle.language.specs.Operation.{Assembly, DTC, Operation, assemblies, assembly_row, assembles, empty, formats_of, malformed, operates, row_formats, unknown}
use Rattle.asm_types.specs.Views.{assembly_at}
use Rattle.asm_sections.specs.Codes.{assembly_code, code_of}
use Rattle.asm_sections.proofs.Laws.{at_code, code_below}
use Rattle.asm_operations.specs.Codes.{card_count, card_format, listed, operand_format, row_of}
use Rattle.asm_operations.proofs.Laws.{row-past}

-- the word of format i of a list
abbrev pub word_at : List Format → ℕ → ℕ
word_at fs i = format_word (get_or fs i NONE)

-- the list is as long as the cells say, has their words below 4, and none of them is NONE
abbrev is_some : ℕ → Format → Bool
is_some i f = not (eqb (format_word f) (format_word NONE))

abbrev agrees : List Format → List ℕ → Bool
agrees fs cells =
    eqb (length fs) (card_count cells) and every is_some 0 fs and eqb (word_at fs 0) (card_format cells 0)
    and eqb (word_at fs 1) (card_format cells 1) and eqb (word_at fs 2) (card_format cells 2) and eqb (word_at fs 3) (card_format cells 3)

count-le : (cells : List ℕ) → card_count cells ≤ 4
unfolding card_count
count-le cells =
    by-if (λ (k : ℕ). k ≤ 4) _ _ _ (λ e. omega arith)
    (λ e. by-if (λ (k : ℕ). k ≤ 4) _ _ _ (λ e. omega arith)
    (λ e. by-if (λ (k : ℕ). k ≤ 4) _ _ _ (λ e. omega arith)
    (λ e. by-if (λ (k : ℕ). k ≤ 4) _ _ _ (λ e. omega arith) (λ e. omega arith))))

-- past the last
no_word : (fs : List Format) (i : ℕ) → length fs ≤ i → word_at fs i ≡ format_word NONE
no_word fs i h = ap format_word (get_or-eq_default fs NONE {n = i} h)

operand-past : (cells : List ℕ) (i : ℕ) → 3 ≤ i → format_word NONE ≡ operand_format cells i
unfolding operand_format if
operand-past cells i h = rw (le-leb 3 i h) refl

none-past : (cells : List ℕ) (i : ℕ) → 4 ≤ i → format_word NONE ≡ card_format cells i
unfolding card_format
none-past cells i h =
    by-if (λ (w : ℕ). format_word NONE ≡ w) _ _ _
    (λ e. by-if (λ (w : ℕ). format_word NONE ≡ w) _ _ _ (λ q. absurd (omega (arith, eqb-true i 0 q))) (λ q. operand-past cells (i - 1) (omega arith)))
    (λ e. operand-past cells i (omega arith))

module _ (fs : List Format) (cells : List ℕ) (t : Ok (agrees fs cells)) where
  counted : length fs ≡ card_count cells
  counted = ok-eq _ _ (and_l _ _ t)

  somes : Ok (every is_some 0 fs)
  somes = and_l _ _ (and_r _ _ t)

  worded : (i : ℕ) → word_at fs i ≡ card_format cells i
  worded zero = ok-eq _ _ (and_l _ _ (and_r _ _ (and_r _ _ t)))
  worded (suc zero) = ok-eq _ _ (and_l _ _ (and_r _ _ (and_r _ _ (and_r _ _ t))))
  worded (suc (suc zero)) = ok-eq _ _ (and_l _ _ (and_r _ _ (and_r _ _ (and_r _ _ (and_r _ _ t)))))
  worded (suc (suc (suc zero))) = ok-eq _ _ (and_r _ _ (and_r _ _ (and_r _ _ (and_r _ _ (and_r _ _ t)))))
  worded (suc (suc (suc (suc i)))) =
      no_word fs (suc (suc (suc (suc i)))) (omega (arith, counted, count-le cells)) ∙ none-past cells (suc (suc (suc (suc i)))) (omega arith)

row_agrees : ℕ → Row → Bool
row_agrees i r = agrees (row_formats r) (cells_of r)

all-agree : Ok (every row_agrees 0 rows)
unfolding rows row_agrees card_count card_format operand_format if Ok ◌and◌
all-agree = tt

none-agrees : Ok (agrees [] (cells_of no_row))
unfolding card_count card_format operand_format if Ok ◌and◌
none-agrees = tt

row-agrees : (i : ℕ) → Ok (agrees (row_formats (row_at i)) (cells_of (row_at i)))
unfolding row_agrees if
row-agrees i = go (ltb i 106) refl
  where
    go : (b : Bool) → ltb i 106 ≡ b → Ok (agrees (row_formats (row_at i)) (cells_of (row_at i)))
    go true q = every-at row_agrees no_row rows all-agree i (rw rows-count (ltb-true i 106 q))
    go false q = subst (λ (r : Row). Ok (agrees (row_formats r) (cells_of r))) (sym (row-past i (ltb-false i 106 q))) none-agrees

assembly_agrees : ℕ → Assembly → Bool
assembly_agrees n a = agrees (assembly_row a).formats (assembly_cells a)

all-assemblies : Ok (every assembly_agrees 0 assemblies)
unfolding assembly_agrees card_count card_format operand_format if Ok ◌and◌
all-assemblies = tt

assembly-agrees : (a : Assembly) → Ok (agrees (assembly_row a).formats (assembly_cells a))
unfolding assembly_agrees
assembly-agrees a =
    subst (λ (b : Assembly). Ok (agrees (assembly_row b).formats (assembly_cells b))) (at_code a)
    (every-at assembly_agrees DTC assemblies all-assemblies (assembly_code a) (code_below a))

listed-agrees : (o : Operation) → Ok (agrees (formats_of o) (listed o))
unfolding formats_of listed
listed-agrees empty = none-agrees
listed-agrees malformed = none-agrees
listed-agrees unknown = none-agrees
listed-agrees (assembles a) = assembly-agrees a
listed-agrees (operates i) = row-agrees i

pub format-by : (o : Operation) (i : ℕ) → word_at (formats_of o) i ≡ card_format (listed o) i
format-by o i = worded (formats_of o) (listed o) (listed-agrees o) i

-- format i is NONE exactly past the last
pub format-some : (o : Operation) (i : ℕ) → (word_at (formats_of o) i ≡ format_word NONE → ⊥) → i < length (formats_of o)
format-some o i h = go (ltb i (length (formats_of o))) refl
  where
    go : (b : Bool) → ltb i (length (formats_of o)) ≡ b → i < length (formats_of o)
    go true q = ltb-true i _ q
    go false q = absurd (h (no_word (formats_of o) i (ltb-false i _ q)))

pub format-none : (o : Operation) (i : ℕ) → word_at (formats_of o) i ≡ format_word NONE → length (formats_of o) ≤ i
unfolding Ok
format-none o i e = go (ltb i (length (formats_of o))) refl
  where
    go : (b : Bool) → ltb i (length (formats_of o)) ≡ b → length (formats_of o) ≤ i
    go true q =
        absurd
        (T_not (eqb (word_at (formats_of o) i) (format_word NONE))
        (every-at is_some NONE (formats_of o) (somes (formats_of o) (listed o) (listed-agrees o)) i (ltb-true i _ q))
        (rw (eq-eqb (word_at (formats_of o) i) (format_word NONE) e) tt))
    go false q = ltb-false i _ q

pub count_by : (o : Operation) → length (formats_of o) ≡ card_count (listed o)
count_by o = counted (formats_of o) (listed o) (listed-agrees o)

-- the cells by the code: those of an assembly operation, and those of the row of any other
pub listed-assembly : (o : Operation) (n : ℕ) → n ≡ code_of o → n < 14 → listed o ≡ assembly_cells (assembly_at n)
unfolding code_of listed
listed-assembly empty n e h = absurd (omega arith)
listed-assembly malformed n e h = absurd (omega arith)
listed-assembly unknown n e h = absurd (omega arith)
listed-assembly (assembles a) n e h = ap assembly_cells (sym (ap assembly_at e ∙ at_code a))
listed-assembly (operates i) n e h = absurd (omega arith)

pub listed-row : (o : Operation) → 14 ≤ code_of o → listed o ≡ cells_of (row_of o)
unfolding code_of listed row_of
listed-row empty h = refl
listed-row malformed h = refl
listed-row unknown h = refl
listed-row (assembles a) h = absurd (omega (arith, code_below a))
listed-row (operates i) h = refl

-- the row that holds these cells: in the list of assembly operations, in the operation table, or past its end
pub row-assembly : (o : Operation) (n : ℕ) → n ≡ code_of o → n < 14 → (t : List (List ℕ)) → t ≡ map assembly_cells assemblies → get_or t n [] ≡ listed o
row-assembly o n q h t e = cells_at assembly_cells assemblies t e DTC n h ∙ sym (listed-assembly o n q h)

module _ (o : Operation) (n : ℕ) (q : n ≡ code_of o) (g : 14 ≤ n) (k : ℕ) (r : row_at k ≡ row_of o) where
  here : listed o ≡ cells_of (row_at k)
  here = listed-row o (rw (← q) g) ∙ ap cells_of (sym r)

  pub row-operation : (t : List (List ℕ)) → t ≡ map cells_of rows → k < 106 → get_or t k [] ≡ listed o
  row-operation t e h = table-row t e k h ∙ sym here

  pub row-nowhere : 106 ≤ k → listed o ≡ cells_of no_row
  row-nowhere h = here ∙ ap cells_of (row-past k h)

pub none-format : (i : ℕ) → card_format (cells_of no_row) i ≡ format_word NONE
unfolding formats_of listed
none-format i = sym (format-by empty i)

pub none-count : card_count (cells_of no_row) ≡ 0
unfolding formats_of listed
none-count = sym (count_by empty)
