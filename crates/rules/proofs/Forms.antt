-- The two forms of a file: L tells them apart, and RA comes back as it was written, or is +0 with its flag off [02 Wish 5].
-- Assumes nothing.
use Prim.Native.Nat.{ℕ, ◌≤◌, ◌<◌}
use mathlib.Core.Path.{◌≡◌, refl, sym, ◌∙◌}
use mathlib.Core.List.{List, [], ◌∷◌, ◌++◌}
use native.Mathlib.Omega.{arith}
use borrow.Author.Tests.{eqb-true, eqb-false}
use Rattle.base.specs.Test.{if}
use Rattle.base.specs.Lists.{◌at◌}
use Rattle.base.proofs.Bool.{by-if}
use Rattle.ops.specs.Machine.{RA, RAHIGH, RFLAG}
use Rattle.rules.specs.Alike.{AreWords}
use Rattle.rules.specs.Snapshot.{Form, file_by, file_length, file_words, form_in, fresh_in, length_in, links_in, memory_in, new_form, old_form, real_word}
use Rattle.rules.specs.State.{State}
use Rattle.rules.proofs.Files.{real_part-file_by, trailer_word-file_by}

-- a reader finds the form that the file has, and RA and its flag as the machine has them
pub record Told (form : Form) (t : List ℕ) (s : State) (build : ℕ) (front : List ℕ) : Type 0 where
  pub small : form.reals ≤ 3
  pub known : form_in (front ++ file_by form t s build) ≡ form
  pub low : real_word (front ++ file_by form t s build) 0 ≡ s.core.words at RA
  pub high : real_word (front ++ file_by form t s build) 1 ≡ s.core.words at RAHIGH
  pub flag : real_word (front ++ file_by form t s build) 2 ≡ s.core.words at RFLAG

module _ (t : List ℕ) (s : State) (build : ℕ) (front : List ℕ) where
  module _ (w : AreWords (file_words new_form t s build)) where
    known-new : form_in (front ++ file_by new_form t s build) ≡ new_form
    unfolding form_in
    known-new =
        let word = trailer_word-file_by new_form t s build front (omega arith) w in
        let file : List ℕ = front ++ file_by new_form t s build in
        let old : ℕ = file_length old_form (memory_in file) (links_in file) (fresh_in file) in
        by-if (λ (f : Form). f ≡ new_form) _ _ _
        (λ e. absurd (omega (arith, eqb-true (length_in file) old e, word 2 (omega arith), word 3 (omega arith), word 4 (omega arith), word 15 (omega arith)))) (λ e. refl)

    real-new : (i : ℕ) → i < 3 → real_word (front ++ file_by new_form t s build) i ≡ (s.core.words at RA ∷ s.core.words at RAHIGH ∷ s.core.words at RFLAG ∷ []) at i
    unfolding real_word if
    real-new i l = rw known-new (real_part-file_by new_form t s build front (omega arith) w i l)

    -- a file as the writer gives it
    pub told-new : Told new_form t s build front
    told-new =
        record {
          small = omega arith;
          known = known-new;
          low = real-new 0 (omega arith);
          high = real-new 1 (omega arith);
          flag = real-new 2 (omega arith);
        }

  module _ (w : AreWords (file_words old_form t s build)) where
    known-old : form_in (front ++ file_by old_form t s build) ≡ old_form
    unfolding form_in
    known-old =
        let word = trailer_word-file_by old_form t s build front (omega arith) w in
        let file : List ℕ = front ++ file_by old_form t s build in
        let old : ℕ = file_length old_form (memory_in file) (links_in file) (fresh_in file) in
        by-if (λ (f : Form). f ≡ old_form) _ _ _ (λ e. refl)
        (λ e. absurd (eqb-false (length_in file) old e (omega (arith, word 2 (omega arith), word 3 (omega arith), word 4 (omega arith), word 15 (omega arith)))))

    real-old : (i : ℕ) → real_word (front ++ file_by old_form t s build) i ≡ 0
    unfolding real_word if
    real-old i = rw known-old refl

    -- a file from before, of a machine whose RA is +0 and its flag off
    pub told-old : s.core.words at RA ≡ 0 → s.core.words at RAHIGH ≡ 0 → s.core.words at RFLAG ≡ 0 → Told old_form t s build front
    told-old a b c =
        record {
          small = omega arith;
          known = known-old;
          low = real-old 0 ∙ sym a;
          high = real-old 1 ∙ sym b;
          flag = real-old 2 ∙ sym c;
        }
