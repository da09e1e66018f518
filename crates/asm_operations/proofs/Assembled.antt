-- A look-up in the list of assembly operations tells the assembly operation of three letters.
-- Assumes nothing.
use Prim.Native.Nat.{ℕ, zero, suc, ◌<◌}
use native.Mathlib.Nat.{le_of_suc-le-suc, not-suc-le-zero}
use native.Mathlib.Omega.{arith}
use mathlib.Core.Path.{◌≡◌, refl, sym, ◌∙◌}
use mathlib.Core.Bool.{Bool}
use mathlib.Core.List.{List, [], ◌∷◌, map}
use borrow.Author.Tests.{eq-eqb, ne_eqb}
use lib.Dec.{ltb}
use lib.ListN.{get_or, length}
use Rattle.base.specs.Test.{◌and◌, if, Ok}
use Rattle.base.proofs.Bool.{and_l, and_r, ok-lt}
use Rattle.ops.specs.Assembly.{assembly_cells}
use Rattle.ops.specs.Distinct.{apart}
use Rattle.ops.specs.Ops.{letter_of, letters_of, packed}
use Rattle.std.specs.Prelude.{Option, Some, None}
use Rattle.ops.proofs.Apart.{by_mnemonic}
use Rattle.ops.proofs.Every.{every, every-at}
use Rattle.ops.proofs.First.{absent-at, cells_at, cells_count}
use Rattle.ops.proofs.Rows.{packed-same}
use Rattle.op_lookup.specs.Answers.{AnswersIn, HasLetters}
use Rattle.language.specs.Operation.{Assembly, DTC, assemblies, assembles, assembly_in, assembly_row, unknown}
use Rattle.asm_types.specs.Views.{assembly_at}

-- no two have one mnemonic, and the last two letters of each are bytes
assemblies-apart : Ok (apart by_mnemonic assemblies)
unfolding Ok ◌and◌
assemblies-apart = tt

abbrev in_bytes : ℕ → Assembly → Bool
in_bytes i a = ltb (letter_of (assembly_row a).mnemonic 1) 256 and ltb (letter_of (assembly_row a).mnemonic 2) 256

assemblies-bytes : Ok (every in_bytes 0 assemblies)
unfolding Ok ◌and◌
assemblies-bytes = tt

-- the operation of a key that one of a list has, and of one that none has
in-at : (k : ℕ) (bs : List Assembly) → Ok (apart by_mnemonic bs) → (i : ℕ) → i < length bs → by_mnemonic (get_or bs i DTC) ≡ k
    → assembles (get_or bs i DTC) ≡ assembly_in k bs
unfolding if
in-at k [] t i h e = absurd (not-suc-le-zero h)
in-at k (b ∷ bs) t zero h e = rw (eq-eqb k (by_mnemonic b) (sym e))
in-at k (b ∷ bs) t (suc i) h e =
    rw (ne_eqb k (by_mnemonic b) (λ q. absent-at by_mnemonic DTC (by_mnemonic b) bs (and_l _ _ t) i (le_of_suc-le-suc h) (e ∙ q)))
    (in-at k bs (and_r _ _ t) i (le_of_suc-le-suc h) e)

in-none : (k : ℕ) (bs : List Assembly) → ((i : ℕ) → i < length bs → by_mnemonic (get_or bs i DTC) ≡ k → ⊥) → unknown ≡ assembly_in k bs
unfolding if
in-none k [] h = refl
in-none k (b ∷ bs) h =
    rw (ne_eqb k (by_mnemonic b) (λ q. h 0 (omega arith) (sym q))) (in-none k bs (λ i g e. h (suc i) (omega arith) e))

module _ (t : List (List ℕ)) (e : t ≡ map assembly_cells assemblies) (a b c : ℕ) (r : Option ℕ) (x : AnswersIn t a b c r) where
  pub assembly-inside : (i : ℕ) → r ≡ Some i → i < 14
  assembly-inside i q = rw (← cells_count assembly_cells assemblies t e) ((x.row i).0 q).0

  pub assembly-found : (i : ℕ) → r ≡ Some i → assembles (assembly_at i) ≡ assembly_in (packed a b c) assemblies
  assembly-found i q =
      let l : i < length assemblies = assembly-inside i q in
      let w : HasLetters (assembly_cells (assembly_at i)) a b c = rw (← cells_at assembly_cells assemblies t e DTC i l) ((x.row i).0 q).1 in
      in-at (packed a b c) assemblies assemblies-apart i l (rw (w.first, w.second, w.third))

  pub assembly-nowhere : b < 256 → c < 256 → r ≡ None → unknown ≡ assembly_in (packed a b c) assemblies
  assembly-nowhere hb hc q =
      in-none (packed a b c) assemblies
      (λ i l k.
      let y : Ok (in_bytes i (assembly_at i)) = every-at in_bytes DTC assemblies assemblies-bytes i l in
      let p = packed-same _ _ _ a b c (ok-lt _ _ (and_l _ _ y)) (ok-lt _ _ (and_r _ _ y)) hb hc k in
      let w : HasLetters (assembly_cells (assembly_at i)) a b c = record { first = p.0; second = p.1; third = p.2 } in
      x.unknown.0 q i (rw (cells_count assembly_cells assemblies t e) l) (rw (cells_at assembly_cells assemblies t e DTC i l) w))
