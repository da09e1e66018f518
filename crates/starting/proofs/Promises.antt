-- What a host may rely on, in terms of `start`: `Starts` is what it ensures. Both starts are instances of the rules' laws about any started machine.
-- Assumes nothing.
use Prim.Native.Nat.{ℕ, ◌<◌}
use mathlib.Core.Path.{◌≡◌, sym, subst}
use mathlib.Core.List.{List}
use Rattle.base.specs.Test.{Ok}
use Rattle.base.specs.Lists.{◌at◌}
use Rattle.rules.specs.Start.{Mode, initial, start_on}
use Rattle.rules.specs.State as Rules
use Rattle.rules.specs.State.{state_ok}
use Rattle.rules.specs.Table.{fresh_count, fresh_index}
use Rattle.rules.proofs.Canonical.{BegunIs, begun-is}
use Rattle.rules.proofs.Starts.{started-fresh, started-passes}
use Rattle.states.specs.declared.State.{State}
use Rattle.states.specs.Views.{state_of}
use Rattle.starting.specs.Answers.{Starts, beginning}

module _ (t fs : List ℕ) (x : ℕ) where
  -- what holds of a program that begins
  record Fresh (mem : List ℕ) : Type 0 where
    pub fresh : (i : ℕ) → i < fresh_count t → mem at fresh_index t i ≡ fs at i

  abbrev Begins : Rules.State → Type 0
  Begins s = Ok (state_ok t s) × Fresh s.core.mem

  begins-so : (m : List ℕ) → BegunIs Begins (start_on t m fs x)
  begins-so m = begun-is Begins t m fs x (λ ok fits. (started-passes t m fs x ok fits, record { fresh = started-fresh t m fs x ok fits }))

  module _ (k : Mode) (lent : List ℕ) (s : State) (mem : List ℕ) (done : Starts k t lent fs x (beginning s) mem) where
    -- a program that has begun passes the state check
    pub begun-passes : Ok (state_ok t (state_of s mem))
    begun-passes = (subst (BegunIs Begins) (sym done.answer) (begins-so (initial k lent))).0

    -- its fresh words are the host's
    pub begun_fresh : (i : ℕ) → i < fresh_count t → mem at fresh_index t i ≡ fs at i
    begun_fresh i l = (subst (BegunIs Begins) (sym done.answer) (begins-so (initial k lent))).1.fresh i l
