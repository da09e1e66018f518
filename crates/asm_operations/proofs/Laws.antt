-- Operations as numbers: a class by its number, and the tests of operations by code and class.
-- Assumes nothing.
use Prim.Native.Nat.{ℕ, ◌≤◌}
use mathlib.Core.Path.{◌≡◌, refl, sym}
use mathlib.Core.Bool.{Bool, false, not}
use lib.Dec.{eqb}
use lib.ListN.{get_or-eq_default}
use Rattle.base.specs.Test.{◌and◌, ◌or◌, if, Ok}
use Rattle.ops.specs.Class.{beside_of, Class, ENP, ENT, ERR, ESW, IFF, PPM, PRC, RTN, class_code, executes, marks}
use Rattle.ops.specs.Lookup.{no_row, row_at}
use Rattle.ops.specs.Ops.{rows}
use Rattle.ops.proofs.Classes.{agree, every-class, is_code}
use Rattle.ops.proofs.Rows.{rows-count}
use Rattle.language.specs.Operation.{EQU, EXP, GLB, INP, INR, Operation, assembles, empty, has_class, has_text, is_labelless, is_text, malformed, operates, unknown, wants_label}
use Rattle.language.specs.Symbol.{declared_sort, entry, external, global, internal, labelless, placed_sort, plain, procedure, returns, routine, bare}
use Rattle.asm_sections.specs.Codes.{code_of}
use Rattle.asm_sections.proofs.Laws.{assembly-is}
use Rattle.asm_operations.specs.Codes.{row_of}

-- a test for a class that operations have is one of its number
pub has-class : (k : Class) (o : Operation) → eqb 19 (class_code k) ≡ false → has_class k o ≡ eqb (class_code (row_of o).class) (class_code k)
unfolding row_of
has-class k empty e = sym e
has-class k malformed e = sym e
has-class k unknown e = sym e
has-class k (assembles a) e = sym e
has-class k (operates i) e = is_code (row_at i).class k

-- past the last row
pub row-past : (i : ℕ) → 106 ≤ i → row_at i ≡ no_row
row-past i h = get_or-eq_default rows no_row {n = i} (rw rows-count h)

-- Tests by code and class, in the order in which the functions try them.

pub wants-by : (o : Operation) (n k : ℕ) → n ≡ code_of o → k ≡ class_code (row_of o).class
    → wants_label o ≡ (eqb n 4 or eqb n 5 or eqb n 6 or eqb n 7 or eqb n 8 or eqb k 17 or eqb k 7 or eqb k 6)
unfolding wants_label
wants-by o n k e f =
    rw (
      e,
      f,
      assembly-is EXP o,
      assembly-is INP o,
      assembly-is INR o,
      assembly-is GLB o,
      assembly-is EQU o,
      has-class (marks PRC) o refl,
      has-class (executes RTN) o refl,
      has-class (executes ENT) o refl,
    )

pub labelless-by : (o : Operation) (k : ℕ) → k ≡ class_code (row_of o).class
    → is_labelless o ≡ (eqb k 18 or eqb k 13 or eqb k 14 or eqb k 15 or eqb k 16)
unfolding is_labelless
labelless-by o k f =
    rw (
      f,
      has-class (marks ENP) o refl,
      has-class (marks PPM) o refl,
      has-class (marks ERR) o refl,
      has-class (marks IFF) o refl,
      has-class (marks ESW) o refl,
    )

pub declared-by : (o : Operation) (n : ℕ) → n ≡ code_of o
    → declared_sort o ≡ if (eqb n 4) external (if (eqb n 5) internal (if (eqb n 6) routine (if (eqb n 7) global bare)))
unfolding declared_sort
declared-by o n e = rw (e, assembly-is EXP o, assembly-is INP o, assembly-is INR o, assembly-is GLB o)

pub placed_by_lem : (o : Operation) (k : ℕ) → k ≡ class_code (row_of o).class
    → placed_sort o ≡ if (eqb k 6) entry (if (eqb k 17) procedure (if (eqb k 7) returns (if (is_labelless o) labelless plain)))
unfolding placed_sort
placed_by_lem o k f = rw (f, has-class (executes ENT) o refl, has-class (marks PRC) o refl, has-class (executes RTN) o refl)

-- a text follows the operands of ERR and ERB alone
text_code : Class → Bool
text_code k = eqb (class_code k) 14 or eqb (class_code k) 11

text-is : (k : Class) → is_text (beside_of k) ≡ (eqb (class_code k) 14 or eqb (class_code k) 11)
unfolding text_code if Ok ◌and◌ ◌or◌
text-is k = agree _ _ (every-class (λ (d : Class). if (is_text (beside_of d)) (text_code d) (not (text_code d))) tt k)

pub text-by : (o : Operation) (k : ℕ) → k ≡ class_code (row_of o).class → has_text o ≡ (eqb k 14 or eqb k 11)
unfolding has_text row_of ◌or◌
text-by empty k e = rw e
text-by malformed k e = rw e
text-by unknown k e = rw e
text-by (assembles a) k e = rw e
text-by (operates i) k e = rw e (text-is (row_at i).class)
