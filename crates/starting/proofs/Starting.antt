-- Start's answers: each refusal in its place, and the program that begins.
-- Assumes nothing.
use Prim.Native.Nat.{ℕ, ◌+◌, ◌-◌, ◌<◌, ◌≤◌}
use mathlib.Core.Path.{◌≡◌, refl, sym, ap, ◌∙◌}
use mathlib.Core.Bool.{Bool, true, false}
use mathlib.Core.List.{List, ◌++◌}
use native.Mathlib.Omega.{arith}
use borrow.Author.Tests.{eq-eqb, ltb-false, ltb-true, ne_eqb}
use lib.Dec.{ltb}
use lib.ListN.{length, replicate, take}
use lib.Seq.{ext_get_or}
use Rattle.base.specs.Test.{Ok}
use Rattle.base.specs.Lists.{◌at◌}
use Rattle.base.proofs.Bool.{true-ok, unless-no, unless-yes}
use Rattle.rules.specs.Number.{Refusal, bad_table, unfit_memory, fresh_count_off}
use Rattle.rules.specs.State.{memory_fits}
use Rattle.rules.specs.Check.{table_ok}
use Rattle.rules.specs.Table.{constants, fresh_count, workings}
use Rattle.rules.specs.Start.{Mode, begun, initial, loaded, plain, started, start_of, start_on, unbegun, warm}
use Rattle.rules.proofs.Memory.{length-loaded, loaded-behind, loaded-program, zeros-at}
use Rattle.rules.proofs.Starts.{length-initial, own-fits}
use Rattle.loading.proofs.Loads.{cleared-behind, cleared-front, length-cleared}
use Rattle.std.specs.Prelude.{Result}
use Rattle.states.specs.declared.State.{State}
use Rattle.states.specs.Views.{fresh_of, state_of}
use Rattle.states.proofs.Coded.{code_view, fresh-view}
use Rattle.starting.specs.Answers.{Starts, beginning, kept_in, refusal_of, refusing}
use Rattle.starting.specs.declared.StartError.{StartError}
use Rattle.starting.specs.declared.StartError.TheVariants.{BadTable, UnfitMemory, FreshCountOff}

-- memory as it is loaded, with zeros behind what is kept of it, is what the program begins with
cleared-loaded : (k : Mode) (t lent fs : List ℕ) → Ok (table_ok t) → constants t + workings t ≤ length lent
    → take (kept_in k t (length lent)) (loaded t fs lent) ++ replicate (length (loaded t fs lent) - kept_in k t (length lent)) 0
    ≡ loaded t fs (initial k lent)
cleared-loaded k t lent fs ok fit =
    ext_get_or 0 _ _ (same_length (kept_in k t (length lent)) ∙ sym (length-loaded t fs (initial k lent) ∙ length-initial k lent))
    (λ p l. by_mode k p (omega (arith, same_length (kept_in k t (length lent)))))
  where
    same_length : (n : ℕ) → length (take n (loaded t fs lent) ++ replicate (length (loaded t fs lent) - n) 0) ≡ length lent
    same_length n = length-cleared n (loaded t fs lent) ∙ length-loaded t fs lent

    plainly : (p : ℕ) → p < length lent → (b : Bool) → ltb p (constants t + workings t) ≡ b
        → (take (constants t + workings t) (loaded t fs lent) ++ replicate (length (loaded t fs lent) - (constants t + workings t)) 0) at p
        ≡ loaded t fs (initial plain lent) at p
    plainly p l true e =
        let h : p < constants t + workings t = ltb-true _ _ e in
        cleared-front (constants t + workings t) (loaded t fs lent) (length (loaded t fs lent) - (constants t + workings t)) p h
        ∙ loaded-program t fs lent (initial plain lent) p h fit (sym (length-initial plain lent))
    plainly p l false e =
        let h : constants t + workings t ≤ p = ltb-false _ _ e in
        cleared-behind (constants t + workings t) (loaded t fs lent) (length (loaded t fs lent) - (constants t + workings t)) p h
        ∙ sym (loaded-behind t ok fs (initial plain lent) p h ∙ zeros-at (length lent) p)

    by_mode : (k : Mode) (p : ℕ) → p < length lent
        → (take (kept_in k t (length lent)) (loaded t fs lent) ++ replicate (length (loaded t fs lent) - kept_in k t (length lent)) 0) at p
        ≡ loaded t fs (initial k lent) at p
    by_mode plain p l = plainly p l (ltb p (constants t + workings t)) refl
    by_mode warm p l = cleared-front (length lent) (loaded t fs lent) (length (loaded t fs lent) - length lent) p l

-- a refusal
refuses : (k : Mode) (t lent fs : List ℕ) (x : ℕ) (r : Result State StartError) (a : StartError) (e : Refusal) → refusal_of a ≡ e
    → start_of k t lent fs x ≡ unbegun e → r ≡ refusing a → Starts k t lent fs x r lent
refuses k t lent fs x r a e v u h = record { answer = rw (h, v, u); memory = rw u; state = rw (h, u) }

-- the code's state of a started machine is seen as that machine
started-view : (t m fs : List ℕ) (x : ℕ) → state_of (fresh_of t (length m) x) (loaded t fs m) ≡ started t m fs x
unfolding started
started-view t m fs x = rw (← fresh-view t m fs x) (code_view (started t m fs x) (loaded t fs m) refl (omega arith) (omega arith))

module _ (k : Mode) (t lent fs : List ℕ) (x : ℕ) (r : Result State StartError) where
  -- 30
  pub refuses-table : table_ok t ≡ false → r ≡ refusing BadTable → Starts k t lent fs x r lent
  unfolding start_on
  refuses-table a h = refuses k t lent fs x r BadTable bad_table refl (unless-no _ _ _ a) h

  module _ (ok : table_ok t ≡ true) where
    -- memory fits as it was lent exactly if it fits as the program begins on it
    fits-initial : (b : Bool) → memory_fits t (length lent) ≡ b → memory_fits t (length (initial k lent)) ≡ b
    fits-initial b e = rw (length-initial k lent) e

    -- 10
    pub refuses-memory : memory_fits t (length lent) ≡ false → r ≡ refusing UnfitMemory → Starts k t lent fs x r lent
    unfolding start_on
    refuses-memory a h =
        refuses k t lent fs x r UnfitMemory unfit_memory refl (unless-yes _ _ _ ok ∙ unless-no _ _ _ (fits-initial false a)) h

    module _ (fits : memory_fits t (length lent) ≡ true) where
      -- 43
      pub refuses-supply : (length fs ≡ fresh_count t → ⊥) → r ≡ refusing FreshCountOff → Starts k t lent fs x r lent
      unfolding start_on
      refuses-supply a h =
          refuses k t lent fs x r FreshCountOff fresh_count_off refl
          (unless-yes _ _ _ ok ∙ unless-yes _ _ _ (fits-initial true fits) ∙ unless-no _ _ _ (ne_eqb _ _ a)) h

      -- the program begins
      pub begins : (from : ℕ) (after : List ℕ) → length fs ≡ fresh_count t → r ≡ beginning (fresh_of t (length lent) x)
          → from ≡ kept_in k t (length lent) → after ≡ take from (loaded t fs lent) ++ replicate (length (loaded t fs lent) - from) 0
          → Starts k t lent fs x r after
      unfolding start_on started
      begins from after supply h f e =
          let m : List ℕ = initial k lent in
          let u : start_of k t lent fs x ≡ begun (started t m fs x) =
          unless-yes _ _ _ ok ∙ unless-yes _ _ _ (fits-initial true fits) ∙ unless-yes _ _ _ (eq-eqb _ _ supply) in
          let c : after ≡ loaded t fs m = e ∙ rw f (cleared-loaded k t lent fs (true-ok _ ok) (own-fits t (length lent) (true-ok _ fits))) in
          let n : fresh_of t (length lent) x ≡ fresh_of t (length m) x = rw (length-initial k lent) in
          record {
            answer = rw (h, u, c, n) (ap begun (started-view t m fs x));
            memory = rw u c;
            state = rw (h, u) (n ∙ sym (fresh-view t m fs x));
          }
