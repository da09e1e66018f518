-- The words of the constant table say what the formats of the rows say: one computed test over all rows.
-- Assumes nothing.
use Prim.Native.Nat.{ℕ, zero, suc, ◌+◌, ◌-◌, ◌*◌, ◌/◌, ◌%◌, ◌^◌, ◌<◌, ◌≤◌}
use mathlib.Core.Path.{◌≡◌, refl, sym, ap, subst, ◌∙◌}
use mathlib.Core.Bool.{Bool, true, false}
use mathlib.Core.List.{List, [], ◌∷◌}
use mathlib.Core.Logic.{◌⊎◌, ⊎_elim, inl, inr}
use native.Mathlib.Omega.{arith}
use native.Mathlib.Nat.{add-zero}
use lib.Dec.{eqb, ltb, leb}
use lib.ListN.{length, get_or}
use borrow.Author.Tests.{eqb-true, ne_eqb, eq-eqb, le-ltb}
use Rattle.base.specs.Test.{◌and◌, ◌or◌, if, Ok}
use Rattle.base.specs.Lists.{member}
use Rattle.base.proofs.Bool.{and_l, and_r, if-true, lt-ok, ok-eq, ok-lt, test-true, true-ok}
use Rattle.ops.specs.Class.{none, class_code}
use Rattle.ops.specs.Format.{Format, format_word, no_kind, place_kind, code_word}
use Rattle.ops.specs.Lookup.{first_with, by_number, row_of_number, row_at, no_row}
use Rattle.ops.specs.Ops.{Row, rows, class_in, cells_of}
use Rattle.std.specs.Prelude.{Some, None}
use Rattle.ops.proofs.First.{row-known, first-sound}
use Rattle.ops.proofs.Numbers.{row-of-number}
use Rattle.ops.proofs.Formats.{row_words}
use Rattle.ops.proofs.Rows.{number-exactly, rows-count}
use Rattle.ops.proofs.Every.{every, every-at}
use Rattle.rules.specs.Check.{register_ok, value_ok, operand_ok, third_ok, fields_ok, apart}
use Rattle.rules.specs.Table.{size, field, class_at}
use Rattle.table_layout.specs.Below.{below}
use Rattle.entries.specs.Coded.{takes_kind, last_of, largest_of, operand_by, third_by, fields_by, entry_by, entry_ok}
use Rattle.table_layout.proofs.Belows.{below_at}

-- two tests agree
unfoldable agree : Bool → Bool → Bool
agree true b = b
agree false true = false
agree false false = true

agree-is : (a b : Bool) → agree a b ≡ true → a ≡ b
unfolding agree
agree-is true true h = refl
agree-is true false h = sym h
agree-is false true h = h
agree-is false false h = refl

-- kind k is a bit of the word exactly where it is in the list
agrees : ℕ → List ℕ → ℕ → Bool
agrees w ks k = agree (takes_kind w k) (member k ks)

-- each kind is below 24
small : List ℕ → Bool
small [] = true
small (k ∷ ks) = ltb k 24 and small ks

-- the word, given by its number, says what the format says
says_by : ℕ → Format → Bool
says_by w f = (eqb (last_of w) f.last_x and eqb (largest_of w) f.largest) and small f.kinds and below (agrees w f.kinds) 24

says : Format → Bool
says f = says_by (format_word f) f

row_says : ℕ → Row → Bool
row_says i r = says r.one and says r.two and says r.three

all_say : Ok (every row_says 0 rows)
unfolding rows Ok ◌and◌ ◌or◌ if agree agrees small says_by says row_says below member takes_kind last_of largest_of
all_say = tt

member-past : (k : ℕ) (ks : List ℕ) → Ok (small ks) → 24 ≤ k → member k ks ≡ false
unfolding small member ◌or◌
member-past k [] h l = refl
member-past k (x ∷ xs) h l =
    let g : x < 24 = ok-lt _ _ (and_l _ _ h) in rw (ne_eqb k x (λ e. omega arith)) (member-past k xs (and_r _ _ h) l)

takes-past : (w k : ℕ) → 24 ≤ k → takes_kind w k ≡ false
unfolding takes_kind ◌and◌
takes-past w k l = rw (le-ltb k 24 l) refl

le-cases : (k n : ℕ) → (k < n) ⊎ (n ≤ k)
le-cases k zero = inr (omega arith)
le-cases zero (suc n) = inl (omega arith)
le-cases (suc k) (suc n) = ⊎_elim (λ (a : k < n). inl (omega arith)) (λ (a : n ≤ k). inr (omega arith)) (le-cases k n)

module _ (w : ℕ) (f : Format) (h : Ok (says_by w f)) where
  kinds-are : (k : ℕ) → takes_kind w k ≡ member k f.kinds
  unfolding says_by agrees
  kinds-are k =
      ⊎_elim (λ (l : k < 24). agree-is _ _ (below_at (agrees w f.kinds) 24 (test-true _ (and_r _ _ (and_r _ _ h))) k l))
      (λ (l : 24 ≤ k). takes-past w k l ∙ sym (member-past k f.kinds (and_l _ _ (and_r _ _ h)) l))
      (le-cases k 24)

  last-is : last_of w ≡ f.last_x
  unfolding says_by
  last-is = ok-eq _ _ (and_l _ _ (and_l _ _ h))

  largest-is : largest_of w ≡ f.largest
  unfolding says_by
  largest-is = ok-eq _ _ (and_r _ _ (and_l _ _ h))

  operand-is : (t : List ℕ) (k r v : ℕ) → operand_by t w k r v ≡ operand_ok t f k r v
  unfolding operand_by operand_ok register_ok value_ok
  operand-is t k r v = rw (kinds-are k, last-is, largest-is) refl

  third-is : (t : List ℕ) (x : ℕ) → third_by t w x ≡ third_ok t f x
  unfolding third_by third_ok
  third-is t x = rw (kinds-are no_kind, kinds-are place_kind) refl

-- the field rules by a row
row_fields : List ℕ → ℕ → Row → Bool
row_fields t p r =
    operand_ok t r.one (field t p 1) (field t p 2) (field t p 3) and operand_ok t r.two (field t p 4) (field t p 5) (field t p 6)
    and third_ok t r.three (field t p 7)

fields_in : (t : List ℕ) (p : ℕ) (rs : List Row) (s j : ℕ) → first_with by_number (field t p 0) s rs ≡ Some j
    → fields_ok t p rs ≡ row_fields t p (get_or rs (j - s) no_row)
unfolding if fields_ok row_fields
fields_in t p [] s j e = absurd (row-known (sym e))
fields_in t p (r ∷ rs) s j e = go (fields_in t p rs (suc s) j) (eqb (field t p 0) r.number) refl
  where
    go : (first_with by_number (field t p 0) (suc s) rs ≡ Some j → fields_ok t p rs ≡ row_fields t p (get_or rs (j - suc s) no_row)) → (b : Bool)
        → eqb (field t p 0) r.number ≡ b → fields_ok t p (r ∷ rs) ≡ row_fields t p (get_or (r ∷ rs) (j - s) no_row)
    go ih true q =
        let g : Some s ≡ Some j = rw q at e in
        let g' : s ≡ j = cc in
        let z : j - s ≡ 0 = omega arith in
        rw (z, q) refl
    go ih false q =
        let g : first_with by_number (field t p 0) (suc s) rs ≡ Some j = rw q at e in
        let z : j - s ≡ suc (j - suc s) = omega (arith, (first-sound by_number no_row (field t p 0) rs (suc s) j g).from) in
        rw (z, q) (ih g)

fields-none : (t : List ℕ) (p : ℕ) (rs : List Row) (s : ℕ) → first_with by_number (field t p 0) s rs ≡ None → fields_ok t p rs ≡ false
unfolding if fields_ok
fields-none t p [] s e = refl
fields-none t p (r ∷ rs) s e = go (fields-none t p rs (suc s)) (eqb (field t p 0) r.number) refl
  where
    go : (first_with by_number (field t p 0) (suc s) rs ≡ None → fields_ok t p rs ≡ false) → (b : Bool)
        → eqb (field t p 0) r.number ≡ b → fields_ok t p (r ∷ rs) ≡ false
    go ih true q = absurd (row-known (rw q at e))
    go ih false q = rw q (ih (rw q at e))

class-none : (k : ℕ) (rs : List Row) (s : ℕ) → first_with by_number k s rs ≡ None → class_in k rs ≡ none
unfolding if
class-none k [] s e = refl
class-none k (r ∷ rs) s e = go (class-none k rs (suc s)) (eqb k r.number) refl
  where
    go : (first_with by_number k (suc s) rs ≡ None → class_in k rs ≡ none) → (b : Bool) → eqb k r.number ≡ b
        → class_in k (r ∷ rs) ≡ none
    go ih true q = absurd (row-known (rw q at e))
    go ih false q = rw q (ih (rw q at e))

op_is : (t : List ℕ) (p : ℕ) → field t p 0 ≡ get_or t (8 + 8 * p) 0
unfolding field
op_is t p = rw (add-zero (8 + 8 * p)) refl

-- a row that is found is in the table
pub row_inside : (n : ℕ) {i : ℕ} → row_of_number n ≡ Some i → i < 106
row_inside n {i} e = rw (← rows-count) ((number-exactly n i).0 e).0

-- the rules of an entry are those of the words of its row
module _ (t : List ℕ) (p i : ℕ) (e : row_of_number (get_or t (8 + 8 * p) 0) ≡ Some i) where
  row-says : Ok (row_says i (row_at i))
  row-says = every-at row_says no_row rows all_say i ((number-exactly _ i).0 e).0

  pub fields-is : fields_ok t p rows ≡ fields_by t p (format_word (row_at i).one) (format_word (row_at i).two) (format_word (row_at i).three)
  unfolding fields_by row_fields row_says says row_of_number
  fields-is =
      let g : first_with by_number (field t p 0) 0 rows ≡ Some i = rw (op_is t p) e in
      let z : i - 0 ≡ i = omega arith in
      let f : fields_ok t p rows ≡ row_fields t p (row_at i) = fields_in t p rows 0 i g ∙ rw z refl in
      rw (f, operand-is _ _ (and_l _ _ row-says), operand-is _ _ (and_l _ _ (and_r _ _ row-says)), third-is _ _ (and_r _ _ (and_r _ _ row-says))) refl

  pub class_is : p < get_or t 0 0 → class_code (row_at i).class ≡ class_code (class_at t p)
  unfolding class_at size
  class_is l =
      let g : class_in (field t p 0) rows ≡ (row_at i).class = rw (op_is t p) (row-of-number _ i e).class in
      ap class_code (sym (if-true (ltb p (get_or t 0 0)) (class_in (field t p 0) rows) none (lt-ok p (get_or t 0 0) l) ∙ g))

  -- the same by a row of the constant table
  module _ (cells : List ℕ) (q : cells ≡ cells_of (row_at i)) where
    pub fields-cells : fields_ok t p rows ≡ fields_by t p (code_word (get_or cells 5 0)) (code_word (get_or cells 6 0)) (code_word (get_or cells 7 0))
    fields-cells = let w = row_words i ((number-exactly _ i).0 e).0 in rw (q, w.0, w.1, w.2) fields-is

    pub entry-cells : entry_ok t p ≡ entry_by t p (code_word (get_or cells 5 0)) (code_word (get_or cells 6 0)) (code_word (get_or cells 7 0))
    unfolding entry_ok entry_by
    entry-cells = rw fields-cells refl

    pub class-cells : p < get_or t 0 0 → get_or cells 8 0 ≡ class_code (class_at t p)
    class-cells l = rw q (class_is l)

-- an operation that no row has
module _ (t : List ℕ) (p : ℕ) (e : row_of_number (get_or t (8 + 8 * p) 0) ≡ None) where
  pub fields-unknown : fields_ok t p rows ≡ false
  unfolding row_of_number
  fields-unknown =
      let g : first_with by_number (field t p 0) 0 rows ≡ None = rw (op_is t p) e in fields-none t p rows 0 g

  pub entry-unknown : entry_ok t p ≡ false
  unfolding entry_ok ◌and◌
  entry-unknown = rw fields-unknown refl

  pub class-unknown : p < get_or t 0 0 → 19 ≡ class_code (class_at t p)
  unfolding class_at size row_of_number
  class-unknown l =
      let g : class_in (field t p 0) rows ≡ none = class-none (field t p 0) rows 0 (rw (op_is t p) e) in
      ap class_code (sym (if-true (ltb p (get_or t 0 0)) (class_in (field t p 0) rows) none (lt-ok p (get_or t 0 0) l) ∙ g))

-- past the last entry
pub class-past : (t : List ℕ) → 19 ≡ class_code (class_at t (get_or t 0 0))
unfolding class_at size if
class-past t = rw (le-ltb (get_or t 0 0) (get_or t 0 0) (omega arith)) refl
