-- The index of the rows by number: what the first i rows put into it, and that it tells the row of every number.
-- Assumes nothing.
use Prim.Native.Nat.{ℕ, ◌+◌, ◌*◌, ◌/◌, ◌%◌, ◌<◌, ◌≤◌}
use native.Mathlib.Omega.{arith}
use mathlib.Core.Path.{◌≡◌, refl, sym, ap, ◌∙◌}
use mathlib.Core.Bool.{Bool, true, false}
use mathlib.Core.List.{List, [], map}
use borrow.Author.Tests.{eqb-true, eqb-false}
use lib.Dec.{eqb, ltb}
use lib.ListN.{length, get_or, set, length-set, replicate, length-replicate, get_or-replicate}
use lib.Seq.{get_or-set_same, get_or-set_other}
use Rattle.base.specs.Test.{◌and◌, Ok}
use Rattle.base.proofs.Bool.{ok-lt}
use Rattle.ops.specs.Ops.{Row, rows, cells_of}
use Rattle.ops.specs.Lookup.{row_of_number, no_row, row_at}
use Rattle.std.specs.Prelude.{Option, Some, None}
use Rattle.ops.proofs.Every.{every, every-at}
use Rattle.ops.proofs.Rows.{rows-count, rows-distinct, number-exactly, number-unknown, table-row}
use Rattle.op_lookup.specs.Answers.{IndexOf, slot_of}

abbrev numbered : ℕ → Row → Bool
numbered i r = ltb r.number 1002

all-below : Ok (every numbered 0 rows)
unfolding rows Ok ◌and◌
all-below = tt

-- a row's number has a cell in the index
pub number-below : (i : ℕ) → i < 106 → (row_at i).number < 1002
number-below i h = ok-lt _ _ (every-at numbered no_row rows all-below i (rw rows-count h))

-- an index of the first i rows
pub record IndexTo (i : ℕ) (cells : List ℕ) : Type 0 where
  pub size : length cells ≡ 1002
  pub rows : (k : ℕ) → k < i → get_or cells (row_at k).number 0 ≡ k
  pub others : (n : ℕ) → n < 1002 → ((k : ℕ) → k < i → (row_at k).number ≡ n → ⊥) → get_or cells n 0 ≡ 255

-- of no row: every cell holds 255
pub index-begun : IndexTo 0 (replicate 1002 255)
index-begun =
    record {
      size = length-replicate {A = ℕ} 1002 255;
      rows = λ k h. absurd (omega arith);
      others = λ n h u. get_or-replicate 1002 n 255 0 h;
    }

-- of one row more
pub index-more : (i : ℕ) (cells : List ℕ) → i < 106 → IndexTo i cells → IndexTo (i + 1) (set cells (row_at i).number i)
index-more i cells h x =
    let l : (row_at i).number < length cells = rw x.size (number-below i h) in
    record {
      size = length-set cells (row_at i).number i ∙ x.size;
      rows = λ k g. here k g (eqb k i) refl;
      others = λ n g u.
          get_or-set_other cells (row_at i).number n i 0 (λ e. u i (omega arith) (sym e))
          ∙ x.others n g (λ k d. u k (omega arith));
    }
  where
    here : (k : ℕ) → k < i + 1 → (b : Bool) → eqb k i ≡ b → get_or (set cells (row_at i).number i) (row_at k).number 0 ≡ k
    here k g true q =
        let z : k ≡ i = eqb-true k i q in
        rw z (get_or-set_same cells (row_at i).number i 0 (rw x.size (number-below i h)))
    here k g false q =
        let n : k ≡ i → ⊥ = eqb-false k i q in
        let d : k < i = omega arith in
        let u : (row_at k).number ≡ (row_at i).number → ⊥ =
        λ e. n (rows-distinct.numbers k i (rw rows-count (omega arith)) (rw rows-count h) e) in
        get_or-set_other cells (row_at i).number (row_at k).number i 0 u ∙ x.rows k d

-- of all rows
pub index-whole : (cells : List ℕ) → IndexTo 106 cells → IndexOf cells
index-whole cells x = record { size = x.size; slots = λ n h. at n h (row_of_number n) refl }
  where
    at : (n : ℕ) → n < 1002 → (r : Option ℕ) → row_of_number n ≡ r → get_or cells n 0 ≡ slot_of r
    at n h (Some j) e =
        let p = (number-exactly n j).0 e in
        rw (← p.1) (x.rows j (rw (← rows-count) p.0))
    at n h None e = x.others n h (λ k d. (number-unknown n).0 e k (rw rows-count d))

-- what a cell tells of its number
module _ (cells : List ℕ) (x : IndexOf cells) (n : ℕ) (h : n < 1002) where
  pub slot-free : get_or cells n 0 ≡ 255 → None ≡ row_of_number n
  slot-free e = go (row_of_number n) refl
    where
      go : (r : Option ℕ) → row_of_number n ≡ r → None ≡ r
      go (Some j) q =
          let p : j < 106 = rw (← rows-count) ((number-exactly n j).0 q).0 in
          let z : get_or cells n 0 ≡ j = x.slots n h ∙ ap slot_of q in
          absurd (omega arith)
      go None q = refl

  pub slot_row : (get_or cells n 0 ≡ 255 → ⊥) → Some (get_or cells n 0) ≡ row_of_number n
  slot_row e = go (row_of_number n) refl
    where
      go : (r : Option ℕ) → row_of_number n ≡ r → Some (get_or cells n 0) ≡ r
      go (Some j) q = ap Some (x.slots n h ∙ ap slot_of q)
      go None q = absurd (e (x.slots n h ∙ ap slot_of q))

-- a number past the index is in no row
pub past_index : (n : ℕ) → 1002 ≤ n → None ≡ row_of_number n
past_index n h =
    sym ((number-unknown n).1 (λ i g e. let l : (row_at i).number < 1002 = number-below i (rw (← rows-count) g) in omega arith))

-- the number that the cells of row i of the constant table hold
pub number-here : (t : List (List ℕ)) → t ≡ map cells_of rows → (i n : ℕ) → i < 106
    → n ≡ get_or (get_or t i []) 0 0 * 100 + get_or (get_or t i []) 1 0 → n ≡ (row_at i).number
number-here t e i n h q =
    let c : get_or t i [] ≡ cells_of (row_at i) = table-row t e i h in
    let z : (row_at i).number / 100 * 100 + (row_at i).number % 100 ≡ (row_at i).number = omega arith in
    q ∙ rw (c, z)
