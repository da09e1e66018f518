-- What a file whose trailer holds has, and tests taken one by one.
-- Assumes nothing.
use Prim.Native.Nat.{ℕ, ◌+◌, ◌*◌, ◌-◌, ◌≤◌}
use mathlib.Core.Path.{◌≡◌, refl, sym, ap, ◌∙◌}
use mathlib.Core.Bool.{Bool, true, false}
use mathlib.Core.List.{List}
use native.Mathlib.Omega.{arith}
use borrow.Author.Tests.{eq-eqb, le-leb, ne_eqb}
use lib.Dec.{eqb, leb}
use lib.ListN.{length}
use Rattle.base.specs.Test.{Ok, ◌and◌}
use Rattle.base.specs.Lists.{same}
use Rattle.base.proofs.Bool.{and_l, and_r, both, if_no, if_yes, ok-eq, ok-le, passed, true-ok}
use Rattle.ops.specs.Machine.{min_memory, max_memory}
use Rattle.real_rules.specs.Real.{finite_high}
use Rattle.rules.specs.Check.{among}
use Rattle.rules.specs.Table.{fresh_count, size}
use Rattle.rules.specs.Snapshot.{Form, file_length, form_in, new_form, old_form, real_word, word_in, fresh_from, fresh_in, fresh_list, length_in, links_in, memory_in, same_program, trailer_bytes, trailer_ok, trailer_word, words_in}
use Rattle.rules.proofs.Files.{length-fresh_list}

-- the first of two tests passes, or it does not
pub and_yes : (a b : Bool) → a ≡ true → (a and b) ≡ b
unfolding ◌and◌
and_yes a b e = rw e

pub and_no : (a b : Bool) → a ≡ false → (a and b) ≡ false
unfolding ◌and◌
and_no a b e = rw e

-- a test that cannot pass
pub not-ok : (b : Bool) → (Ok b → ⊥) → b ≡ false
not-ok true h = absurd (h passed)
not-ok false h = refl

and_assoc : (a b c : Bool) → ((a and b) and c) ≡ (a and (b and c))
unfolding ◌and◌
and_assoc true b c = refl
and_assoc false b c = refl

-- the form of a file, where n is L of the old form
module _ (file : List ℕ) (l n : ℕ) (e : l ≡ length_in file) (f : n ≡ file_length old_form (memory_in file) (links_in file) (fresh_in file)) where
  pub form-old : l ≡ n → form_in file ≡ old_form
  unfolding form_in
  form-old h = if_yes _ _ _ (eq-eqb _ _ (sym e ∙ h ∙ f))

  pub form-new : (l ≡ n → ⊥) → form_in file ≡ new_form
  unfolding form_in
  form-new h = if_no _ _ _ (ne_eqb _ _ (λ q. h (e ∙ q ∙ sym f)))

-- a word of RA and its flag, where g is the form of the file
module _ (file : List ℕ) (i : ℕ) (g : Form) (e : g ≡ form_in file) where
  pub real-none : g.reals ≡ 0 → 0 ≡ real_word file i
  unfolding real_word
  real-none h = sym (if_yes _ _ _ (eq-eqb _ _ (ap (λ (f : Form). f.reals) (sym e) ∙ h)))

  pub real-there : (a : ℕ) → (g.reals ≡ 0 → ⊥) → a ≡ length file - trailer_bytes g + 4 * i → word_in file a ≡ real_word file i
  unfolding real_word
  real-there a h d =
      rw (d, e) (sym (if_no _ _ _ (ne_eqb (form_in file).reals 0 (λ q. h (ap (λ (f : Form). f.reals) e ∙ q)))))

-- L is true, and inside the file
unfoldable pub length_true : List ℕ → Bool
length_true file =
    eqb (length_in file) (file_length (form_in file) (memory_in file) (links_in file) (fresh_in file)) and leb (length_in file) (length file)

pub trailer-inside : (file : List ℕ) → length_true file ≡ true → trailer_bytes (form_in file) ≤ length file
unfolding length_true
trailer-inside file h =
    omega (arith, ok-eq (length_in file) _ (and_l _ _ (true-ok _ h)), ok-le (length_in file) (length file) (and_r _ _ (true-ok _ h)))

-- the trailer's test in three parts
pub trailer-parts : (file : List ℕ) → trailer_bytes old_form ≤ length file
    → trailer_ok file
    ≡ (length_true file and among min_memory max_memory (memory_in file)
    and leb (trailer_word file 6) 1 and leb (trailer_word file 14) 1 and finite_high (real_word file 1) and leb (real_word file 2) 1)
unfolding trailer_ok length_true
trailer-parts file h = and_yes _ _ (le-leb (trailer_bytes old_form) (length file) h) ∙ sym (and_assoc _ _ _)

-- what a trailer that holds says of its file
pub record Trailed (file : List ℕ) : Type 0 where
  pub room : trailer_bytes old_form ≤ length file
  pub whole : length_in file ≡ file_length (form_in file) (memory_in file) (links_in file) (fresh_in file)
  pub inside : length_in file ≤ length file
  pub low : min_memory ≤ memory_in file
  pub high : memory_in file ≤ max_memory
  pub waits : trailer_word file 6 ≤ 1
  pub flag : trailer_word file 14 ≤ 1

pub trailed : (file : List ℕ) → Ok (trailer_ok file) → Trailed file
unfolding trailer_ok among
trailed file ok =
    record {
      room = ok-le _ _ (search both depth 9);
      whole = ok-eq _ _ (search both depth 9);
      inside = ok-le _ _ (search both depth 9);
      low = ok-le _ _ (search both depth 9);
      high = ok-le _ _ (search both depth 9);
      waits = ok-le _ _ (search both depth 9);
      flag = ok-le _ _ (search both depth 9);
    }

-- the trailer of its form lies in the file
pub trailer-room : (file : List ℕ) → Ok (trailer_ok file) → trailer_bytes (form_in file) ≤ length file
trailer-room file ok = let t : Trailed file = trailed file ok in omega (arith, t.whole, t.inside)

-- the last test of the program, after the others
pub same-program : (t file part : List ℕ) (build a : ℕ) → trailer_word file 0 ≡ build → trailer_word file 1 ≡ size t → fresh_in file ≡ fresh_count t
    → part ≡ fresh_list t 0 (fresh_count t) → a ≡ fresh_from file → same (words_in file a (length part)) part ≡ same_program t build file
unfolding same_program
same-program t file part build a b n f p e =
    rw (p, length-fresh_list, e)
    (ap (λ (k : ℕ). same (words_in file (fresh_from file) k) (fresh_list t 0 (fresh_count t))) (sym f)
    ∙ sym (and_yes _ _ (eq-eqb _ _ b) ∙ and_yes _ _ (eq-eqb _ _ n) ∙ and_yes _ _ (eq-eqb _ _ f)))
