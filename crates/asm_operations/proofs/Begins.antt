-- A look-up in the part of the operation table in which the rows of the first letter stand finds what one in the whole table finds.
-- Assumes nothing.
use Prim.Native.Nat.{ℕ, ◌+◌, ◌-◌, ◌<◌, ◌≤◌}
use native.Mathlib.Omega.{arith}
use mathlib.Core.Path.{◌≡◌, refl, sym, ap, subst, ◌∙◌}
use mathlib.Core.Bool.{Bool}
use mathlib.Core.List.{List, [], map}
use lib.Dec.{leb, ltb}
use lib.ListN.{length, get_or, drop, take, length-drop}
use lib.Seq.{get_or-drop, get_or-take, length-take-le}
use Rattle.base.specs.Test.{◌and◌, if, Ok}
use Rattle.base.proofs.Bool.{and_l, and_r, ok-le, ok-lt}
use Rattle.ops.specs.Lookup.{no_row, row_at, row_of_letters}
use Rattle.op_lookup.specs.Answers.{AnswersIn, HasLetters}
use Rattle.ops.specs.Ops.{Row, cells_of, letter_of, letters_of, packed, rows}
use Rattle.std.specs.Prelude.{Option, Some, None}
use Rattle.ops.proofs.Every.{every, every-at}
use Rattle.ops.proofs.Rows.{letters-exactly, letters-unknown, packed-same, rows-count, table-count, table-row}
use Rattle.asm_operations.specs.Codes.{begin, end}

-- each row stands in the part of the table in which its first letter is looked up, and its letters are bytes
abbrev within : ℕ → Row → Bool
within i r =
    leb (begin (letter_of r.mnemonic 0)) i and ltb i (end (begin (letter_of r.mnemonic 0))) and ltb (letter_of r.mnemonic 1) 256
    and ltb (letter_of r.mnemonic 2) 256

all-within : Ok (every within 0 rows)
unfolding rows begin end if Ok ◌and◌
all-within = tt

module _ (t : List (List ℕ)) (e : t ≡ map cells_of rows) (a b c from to : ℕ) (f : from ≡ begin a) (g : to ≡ end from) (h : from ≤ to)
    (l : to ≤ 106) (r : Option ℕ) (x : AnswersIn (take (to - from) (drop from t)) a b c r) where
  at_from : (i : ℕ) → from + i < to → get_or (take (to - from) (drop from t)) i [] ≡ cells_of (row_at (from + i))
  at_from i m = get_or-take (to - from) (drop from t) i [] (omega arith) ∙ get_or-drop from t i [] ∙ table-row t e (from + i) (omega arith)

  long-from : length (take (to - from) (drop from t)) ≡ to - from
  long-from = length-take-le (to - from) (drop from t) (omega (arith, h, l, length-drop from t, table-count t e))

  before : (i : ℕ) → r ≡ Some i → from + i < to
  before i q = omega (arith, ((x.row i).0 q).0, long-from, h)

  pub inside-from : (i : ℕ) → r ≡ Some i → from + i < 106
  inside-from i q = omega (arith, before i q, l)

  pub row_from : (i : ℕ) → r ≡ Some i → Some (from + i) ≡ row_of_letters a b c
  row_from i q =
      let w : HasLetters (cells_of (row_at (from + i))) a b c = rw (← at_from i (before i q)) ((x.row i).0 q).1 in
      sym ((letters-exactly a b c (from + i)).1 (rw rows-count (inside-from i q), rw (w.first, w.second, w.third)))

  pub unknown-from : b < 256 → c < 256 → r ≡ None → None ≡ row_of_letters a b c
  unknown-from hb hc q =
      sym
      ((letters-unknown a b c).1
      (λ i n k.
      let y : Ok (within i (row_at i)) = every-at within no_row rows all-within i n in
      let z = and_r _ _ (and_r _ _ y) in
      let p = packed-same _ _ _ a b c (ok-lt _ _ (and_l _ _ z)) (ok-lt _ _ (and_r _ _ z)) hb hc k in
      let u : begin a ≤ i = subst (λ (m : ℕ). begin m ≤ i) p.0 (ok-le _ _ (and_l _ _ y)) in
      let v : i < end (begin a) = subst (λ (m : ℕ). i < end (begin m)) p.0 (ok-lt _ _ (and_l _ _ (and_r _ _ y))) in
      let v' : i < to = rw (g, f) v in
      let u' : from ≤ i = rw f u in
      let s : from + (i - from) ≡ i = omega arith in
      let m : from + (i - from) < to = rw s v' in
      let d : i - from < length (take (to - from) (drop from t)) = omega (arith, long-from) in
      let w : HasLetters (cells_of (row_at i)) a b c = record { first = p.0; second = p.1; third = p.2 } in
      x.unknown.0 q (i - from) d (rw (at_from (i - from) m, s) w)))
