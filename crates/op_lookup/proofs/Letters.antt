-- What the look-up by letters answers: in any list of rows, and in the one table.
-- Assumes nothing.
use Prim.Native.Nat.{ℕ, ◌+◌, ◌<◌}
use native.Mathlib.Omega.{arith}
use mathlib.Core.Path.{◌≡◌, refl, sym, ap, subst, ◌∙◌}
use mathlib.Core.Bool.{Bool, true, false}
use mathlib.Core.List.{List, [], map}
use borrow.Author.Tests.{eq-eqb, eqb-true, eqb-false}
use lib.Dec.{eqb}
use lib.ListN.{length, get_or}
use Rattle.base.specs.Test.{◌and◌, Ok}
use Rattle.base.proofs.Bool.{and_l, and_r, ok-eq, true-ok, failed}
use Rattle.ops.specs.Ops.{rows, cells_of}
use Rattle.ops.specs.Lookup.{by_letters, row_at}
use Rattle.std.specs.Prelude.{Option}
use Rattle.std.specs.Prelude.{Some, None}
use Rattle.ops.proofs.First.{row-known}
use Rattle.ops.proofs.Rows.{rows-count, letters-apart, same_row, table-count, table-row}
use Rattle.op_lookup.specs.Answers.{HasLetters, Answers, AnswersIn, lettered}

module _ (cells : List ℕ) (a b c : ℕ) where
  -- the test of a row's letters
  pub has-letters : lettered cells a b c ≡ true → HasLetters cells a b c
  has-letters e =
      let t : Ok (lettered cells a b c) = true-ok _ e in
      record {
        first = ok-eq _ _ (and_l _ _ t);
        second = ok-eq _ _ (and_l _ _ (and_r _ _ t));
        third = ok-eq _ _ (and_r _ _ (and_r _ _ t));
      }

  pub other-letters : lettered cells a b c ≡ false → HasLetters cells a b c → ⊥
  unfolding ◌and◌
  other-letters e h = failed (true-ok _ (sym e ∙ rw (eq-eqb _ _ h.first, eq-eqb _ _ h.second, eq-eqb _ _ h.third)))

module _ (t : List (List ℕ)) (a b c : ℕ) where
  -- the row at i is the first that has the letters
  pub first-at : (i : ℕ) → i < length t → HasLetters (get_or t i []) a b c
      → ((j : ℕ) → j < i → HasLetters (get_or t j []) a b c → ⊥) → AnswersIn t a b c (Some i)
  first-at i h e n =
      record {
        row = λ k. (
          λ q.
              let z : i ≡ k = cc in
              subst (λ (m : ℕ). (m < length t) × HasLetters (get_or t m []) a b c × ((j : ℕ) → j < m → HasLetters (get_or t j []) a b c → ⊥)) z (h, e, n),
          λ p.
              let u : i < k → ⊥ = λ l. p.2 i l e in
              let v : k < i → ⊥ = λ l. n k l p.1 in
              let z : i ≡ k = omega arith in
              ap Some z,
        );
        unknown = (λ q. absurd (row-known q), λ u. absurd (u i h e));
      }

  -- one row more has them not
  pub none_more : (i : ℕ) → (HasLetters (get_or t i []) a b c → ⊥) → ((j : ℕ) → j < i → HasLetters (get_or t j []) a b c → ⊥)
      → (j : ℕ) → j < i + 1 → HasLetters (get_or t j []) a b c → ⊥
  none_more i e n j h = go (eqb j i) refl
    where
      go : (q : Bool) → eqb j i ≡ q → HasLetters (get_or t j []) a b c → ⊥
      go true q = rw (eqb-true j i q) e
      go false q = n j (omega (arith, eqb-false j i q))

  -- no row has them
  pub first-nowhere : ((i : ℕ) → i < length t → HasLetters (get_or t i []) a b c → ⊥) → AnswersIn t a b c None
  first-nowhere u =
      record {
        row = λ k. (λ q. absurd (row-known (sym q)), λ p. absurd (u k p.0 p.1));
        unknown = (λ q. u, λ v. refl);
      }

-- two rows that have the same letters are one
same-letters : (i j a b c : ℕ) → i < length rows → j < length rows → HasLetters (cells_of (row_at i)) a b c
    → HasLetters (cells_of (row_at j)) a b c → i ≡ j
same-letters i j a b c h g p q =
    same_row by_letters letters-apart i j h g
    (rw (p.first ∙ sym q.first, p.second ∙ sym q.second, p.third ∙ sym q.third))

-- a look-up in the one table
pub answers_of : (t : List (List ℕ)) → t ≡ map cells_of rows → (a b c : ℕ) (r : Option ℕ) → AnswersIn t a b c r → Answers a b c r
answers_of t e a b c r h =
    record {
      row = λ i. (
        λ q.
            let p = (h.row i).0 q in
            let l : i < 106 = omega (arith, p.0, table-count t e) in
            (rw rows-count l, rw (← table-row t e i l) p.1),
        λ p.
            let l : i < 106 = rw (← rows-count) p.0 in
            (h.row i).1 (
              omega (arith, l, table-count t e),
              rw (table-row t e i l) p.1,
              λ j g w.
                  let m : j < 106 = omega arith in
                  let z : j ≡ i = same-letters j i a b c (rw rows-count m) p.0 (rw (← table-row t e j m) w) p.1 in
                  omega arith,
            ),
      );
      unknown = (
        λ q i g w.
            let l : i < 106 = rw (← rows-count) g in
            h.unknown.0 q i (omega (arith, l, table-count t e)) (rw (table-row t e i l) w),
        λ u.
            h.unknown.1
            (λ i g w.
            let l : i < 106 = omega (arith, g, table-count t e) in
            u i (rw rows-count l) (rw (← table-row t e i l) w)),
      );
    }
