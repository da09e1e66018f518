-- Restore's answers: each refusal in its place, and the machine that is woken.
-- Assumes nothing.
use Prim.Native.Nat.{ℕ, ◌+◌, ◌≤◌}
use mathlib.Core.Path.{◌≡◌, refl, ap, ◌∙◌}
use mathlib.Core.Bool.{true, false}
use mathlib.Core.List.{List}
use native.Mathlib.Omega.{arith}
use borrow.Author.Tests.{eq-eqb, ne_eqb}
use lib.ListN.{length}
use Rattle.base.specs.Test.{Ok}
use Rattle.base.proofs.Bool.{and_l, unless-no, unless-yes}
use Rattle.rules.specs.Number.{Refusal, bad_table, bad_trailer, other_program, bad_frozen, fresh_count_off, memory_length_off}
use Rattle.rules.specs.Check.{table_ok}
use Rattle.rules.specs.Table.{constants, fresh_count, workings}
use Rattle.rules.specs.Start.{refreshed}
use Rattle.rules.specs.Snapshot.{awakened, frozen_in, frozen_ok, links_from, links_in, memory_from, memory_in, restore_of, same_program, trailer_ok, unwoken, woken, words_in}
use Rattle.rules.proofs.Bytes.{length-words_in}
use Rattle.rules.proofs.Files.{state-limits}
use Rattle.rules.proofs.Restores.{wakes-restore}
use Rattle.states.specs.declared.State.{State}
use Rattle.states.specs.Views.{code_of}
use Rattle.snapshot.specs.Answers.{Restores, refusal_of, refusing, waking}
use Rattle.std.specs.Prelude.{Result}
use Rattle.snapshot.specs.declared.waking.RestoreError.{RestoreError}
use Rattle.snapshot.specs.declared.waking.RestoreError.TheVariants.{BadTable, BadTrailer, OtherProgram, BadFrozen, FreshCountOff, MemoryLengthOff}
use Rattle.snapshot.proofs.Machines.{frozen-view}

-- a refusal
refuses : (t file : List ℕ) (build : ℕ) (fs lent : List ℕ) (r : Result State RestoreError) (a : RestoreError) (e : Refusal)
    → refusal_of a ≡ e → restore_of t file build fs lent ≡ unwoken e → r ≡ refusing a
    → Restores t file build fs lent r lent
refuses t file build fs lent r a e v u h =
    record { answer = rw (h, v, u); memory = rw u; state = rw (h, u) }

module _ (t file : List ℕ) (build : ℕ) (fs lent : List ℕ) (r : Result State RestoreError) where
  -- 30
  pub refuses-table : table_ok t ≡ false → r ≡ refusing BadTable → Restores t file build fs lent r lent
  unfolding restore_of
  refuses-table a h = refuses t file build fs lent r BadTable bad_table refl (unless-no _ _ _ a) h

  module _ (ok : table_ok t ≡ true) where
    -- 40
    pub refuses-trailer : trailer_ok file ≡ false → r ≡ refusing BadTrailer → Restores t file build fs lent r lent
    unfolding restore_of
    refuses-trailer a h = refuses t file build fs lent r BadTrailer bad_trailer refl (unless-yes _ _ _ ok ∙ unless-no _ _ _ a) h

    module _ (trailed : trailer_ok file ≡ true) where
      -- 41
      pub refuses-program : same_program t build file ≡ false → r ≡ refusing OtherProgram → Restores t file build fs lent r lent
      unfolding restore_of
      refuses-program a h =
          refuses t file build fs lent r OtherProgram other_program refl (unless-yes _ _ _ ok ∙ unless-yes _ _ _ trailed ∙ unless-no _ _ _ a) h

      module _ (program : same_program t build file ≡ true) where
        -- 42
        pub refuses-frozen : frozen_ok t (frozen_in file) ≡ false → r ≡ refusing BadFrozen → Restores t file build fs lent r lent
        unfolding restore_of
        refuses-frozen a h =
            refuses t file build fs lent r BadFrozen bad_frozen refl
            (unless-yes _ _ _ ok ∙ unless-yes _ _ _ trailed ∙ unless-yes _ _ _ program ∙ unless-no _ _ _ a) h

        module _ (frozen : frozen_ok t (frozen_in file) ≡ true) where
          -- 43
          pub refuses-supply : (length fs ≡ fresh_count t → ⊥) → r ≡ refusing FreshCountOff → Restores t file build fs lent r lent
          unfolding restore_of
          refuses-supply a h =
              refuses t file build fs lent r FreshCountOff fresh_count_off refl
              (unless-yes _ _ _ ok ∙ unless-yes _ _ _ trailed ∙ unless-yes _ _ _ program ∙ unless-yes _ _ _ frozen ∙ unless-no _ _ _ (ne_eqb _ _ a)) h

          module _ (supply : length fs ≡ fresh_count t) where
            -- 44
            pub refuses-lending : (length lent ≡ memory_in file → ⊥) → r ≡ refusing MemoryLengthOff → Restores t file build fs lent r lent
            unfolding restore_of
            refuses-lending a h =
                refuses t file build fs lent r MemoryLengthOff memory_length_off refl
                (unless-yes _ _ _ ok ∙ unless-yes _ _ _ trailed ∙ unless-yes _ _ _ program ∙ unless-yes _ _ _ frozen ∙ unless-yes _ _ _ (eq-eqb _ _ supply)
                ∙ unless-no _ _ _ (ne_eqb _ _ a)) h

-- the links of a file that is fit to be woken are few
pub frozen-few : (t file : List ℕ) → Ok (frozen_ok t (frozen_in file)) → links_in file ≤ 256
unfolding frozen_ok frozen_in
frozen-few t file h =
    omega (arith, (state-limits t (frozen_in file) (and_l _ _ h)).few, length-words_in file (links_from file) (links_in file))

-- and its memory holds the program's own words
pub frozen-own : (t file : List ℕ) → Ok (frozen_ok t (frozen_in file)) → constants t + workings t ≤ memory_in file
unfolding frozen_ok frozen_in
frozen-own t file h =
    omega (arith, (state-limits t (frozen_in file) (and_l _ _ h)).room, length-words_in file (memory_from file) (memory_in file))

-- the machine is woken
pub wakes : (t file : List ℕ) (build : ℕ) (fs lent after : List ℕ) (r : Result State RestoreError) → Ok (table_ok t) → Ok (trailer_ok file)
    → Ok (same_program t build file) → Ok (frozen_ok t (frozen_in file)) → length fs ≡ fresh_count t → length lent ≡ memory_in file
    → r ≡ waking (code_of (frozen_in file))
    → after ≡ refreshed t fs (words_in file (memory_from file) (memory_in file)) → Restores t file build fs lent r after
unfolding frozen_in
wakes t file build fs lent after r ok trailed program frozen supply lending h e =
    let w : restore_of t file build fs lent ≡ woken (awakened t fs (frozen_in file)) =
    wakes-restore t file build fs lent (awakened t fs (frozen_in file))
    (record { table = ok; trailed = trailed; program = program; frozen = frozen; supply = supply; lending = lending; result = refl }) in
    record {
      answer = rw (h, w, e) (ap woken (frozen-view file _ trailed (frozen-few t file frozen)));
      memory = rw w e;
      state = rw (h, w);
    }
