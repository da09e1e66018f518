-- The entry of a card by the numbers that the code reads: its row's cells, the count of types, the declared count.
-- Assumes nothing.
use Prim.Native.Nat.{ℕ, ◌+◌, ◌<◌}
use native.Mathlib.Nat.{zero-add}
use native.Mathlib.Omega.{arith}
use mathlib.Core.Path.{◌≡◌, refl, sym, ap}
use mathlib.Core.Bool.{Bool, true, false}
use mathlib.Core.List.{List, [], ◌∷◌}
use lib.Dec.{eqb}
use lib.ListN.{length, length-append}
use lib.Seq.{get_or-drop}
use Rattle.base.specs.Test.{Ok, ◌and◌, if}
use Rattle.base.proofs.Bool.{and_r, ok-lt, true-ok}
use Rattle.ops.specs.Class.{Beside, Class, beside_of, class_code, marks, nothing, text, typed, PRC}
use Rattle.ops.specs.Format.{no_kind}
use Rattle.ops.specs.Ops.{Row}
use Rattle.ops.proofs.Classes.{every-class}
use Rattle.base.proofs.Bool.{ok-eq}
use Rattle.language.specs.Text.{Parsed, unparsed}
use Rattle.language.specs.Operation.{Operation, assembles, empty, has_class, malformed, operates, unknown}
use Rattle.language.specs.Card.{Card, holds_place, one, word_count}
use Rattle.language.specs.Symbol.{Symbol, declared_count, fields_named}
use Rattle.language.specs.Operand.{Outcome, gives, operand_at, outcomes}
use Rattle.language.specs.Image.{count_or, entry_by, entry_in, first_operand, is_fresh, row_entry, third_of, unread_entry, without_type, words_in}
use Rattle.language.proofs.Lengths.{entries-length, words-length}
use Rattle.asm_types.specs.declared.Given.{Given}
use Rattle.asm_sections.specs.Codes.{code_of}
use Rattle.asm_sections.proofs.Laws.{code_below}
use Rattle.asm_operations.specs.Codes.{row_of}
use Rattle.asm_draft.specs.Operands.{FieldsOf, type_count}

-- PRC's card alone has a procedure type
pub type-count : (k : Class) → type_count (beside_of k) ≡ if (eqb (class_code k) 17) 1 0
unfolding if Ok ◌and◌
type-count k = ok-eq _ _ (every-class (λ (d : Class). eqb (type_count (beside_of d)) (if (eqb (class_code d) 17) 1 0)) tt k)

-- operand k of an entry, by its place among those of the card
operand-past : (b : Beside) (os : List Outcome) (k : ℕ) → operand_at (without_type b os) k ≡ operand_at os (type_count b + k)
operand-past nothing os k = ap (operand_at os) (sym (zero-add k))
operand-past typed os k = get_or-drop 1 os k (gives no_kind 0 0)
operand-past text os k = ap (operand_at os) (sym (zero-add k))

operand-first : (b : Beside) (os : List Outcome) → operand_at (without_type b os) 0 ≡ operand_at os (type_count b)
operand-first nothing os = refl
operand-first typed os = get_or-drop 1 os 0 (gives no_kind 0 0)
operand-first text os = refl

-- the first operand with the declared count, and without
abbrev pub declared_for : List Symbol → Card → Parsed
declared_for all c = if (has_class (marks PRC) c.operation) (declared_count (fields_named c.label all)) unparsed

pub first_by_lem : (all : List Symbol) (c : Card) (o : Outcome) → first_operand all c o ≡ count_or (declared_for all c) o
unfolding first_operand if
first_by_lem all c o = go (has_class (marks PRC) c.operation)
  where
    go : (b : Bool)
        → if b (count_or (declared_count (fields_named c.label all)) o) o ≡ count_or (if b (declared_count (fields_named c.label all)) unparsed) o
    go true = refl
    go false = refl

pub entry-is : (all : List Symbol) (c : Card) (r : Row) (os : List Outcome) (i number third : ℕ) (one two : Given) → number ≡ r.number
    → i ≡ type_count (beside_of r.class) → FieldsOf (first_operand all c (operand_at os i)) one → FieldsOf (operand_at os (i + 1)) two
    → third ≡ third_of (operand_at os (i + 2))
    → number ∷ one.kind ∷ one.reg ∷ one.val ∷ two.kind ∷ two.reg ∷ two.val ∷ third ∷ [] ≡ row_entry all c r (without_type (beside_of r.class) os)
unfolding row_entry
entry-is all c r os i number third one two en ei f g et =
    rw (
      operand-first (beside_of r.class) os,
      operand-past (beside_of r.class) os 1,
      operand-past (beside_of r.class) os 2,
      ← ei,
      en,
      f.kind_is,
      f.reg_is,
      f.val_is,
      g.kind_is,
      g.reg_is,
      g.val_is,
      et,
    )

-- an operation that has no row, and one that has
pub entry-unread : (o : Operation) (n : ℕ) → n ≡ code_of o → (n ≡ 17 → ⊥) → (all : List Symbol) (c : Card) → unread_entry ≡ entry_by o all c
unfolding code_of
entry-unread empty n e h all c = refl
entry-unread malformed n e h all c = refl
entry-unread unknown n e h all c = refl
entry-unread (assembles a) n e h all c = refl
entry-unread (operates i) n e h all c = absurd (h e)

pub entry_row : (o : Operation) (n : ℕ) → n ≡ code_of o → n ≡ 17 → (all : List Symbol) (c : Card)
    → row_entry all c (row_of o) (without_type (beside_of (row_of o).class) (outcomes all c)) ≡ entry_by o all c
unfolding code_of row_of
entry_row empty n e h all c = absurd (omega arith)
entry_row malformed n e h all c = absurd (omega arith)
entry_row unknown n e h all c = absurd (omega arith)
entry_row (assembles a) n e h all c = absurd (omega (arith, code_below a))
entry_row (operates i) n e h all c = refl

-- an entry is eight words
pub entry-long : (all : List Symbol) (c : Card) → holds_place c ≡ true → length (entry_in all c) ≡ 8
unfolding if
entry-long all c h =
    let e : one (holds_place c) ≡ 1 = rw h in
    omega (arith, entries-length all (c ∷ []), length-append (entry_in all c) [])

-- a fresh word is one of its card's words
pub fresh-words : (all : List Symbol) (c : Card) → is_fresh c ≡ true → 0 < length (words_in all c)
unfolding is_fresh
fresh-words all c h =
    omega (
      arith,
      words-length all c,
      ok-lt 0 (word_count c) (and_r _ _ (and_r _ _ (and_r _ _ (and_r _ _ (true-ok _ h))))),
    )
