-- `asm_outcomes::passes` meets its contract: each test by the outcome that decides it.
use mathlib.Core.Path.{◌≡◌, refl}
use mathlib.Core.Bool.{true, false}
use Rattle.language.specs.Fault.{is_defined, is_fit, is_given}
use Rattle.asm_types.specs.Views.{outcome_view}
use Rattle.asm_types.specs.declared.Outcome.{Outcome}
use Rattle.asm_types.specs.declared.Outcome.TheVariants.{Gives, Awaits, Misfits, Unnamed}
use Rattle.asm_outcomes.specs.Tests.{test_by}
use Rattle.asm_outcomes.proofs.passes.Goals.{in-Misfits, in-Unnamed, in_default, in_default-matches}
use Rattle.asm_outcomes.proofs.passes.Goals as goal

fits : (o : Outcome) → (o ≡ Misfits → ⊥) → true ≡ is_fit (outcome_view o)
fits (Gives g) h = refl
fits Awaits h = refl
fits Misfits h = absurd (h refl)
fits Unnamed h = refl

defined : (o : Outcome) → (o ≡ Unnamed → ⊥) → true ≡ is_defined (outcome_view o)
defined (Gives g) h = refl
defined Awaits h = refl
defined Misfits h = refl
defined Unnamed h = absurd (h refl)

pub returns-after-matches : goal.returns-after-matches
unfolding test_by
returns-after-matches c =
    elim c.match-matches.branch [
      | in-Misfits w ↦ rw (w.matches-is, c.in-Fits.is, w.in-Misfits.is) refl
      | in_default w ↦ rw (w.matches-is, c.in-Fits.is) (fits c.args.o w.in_default.not-Misfits)
    ]

pub returns-after-matches-2 : goal.returns-after-matches-2
unfolding test_by
returns-after-matches-2 c =
    elim c.match-matches-2.branch [
      | in-Unnamed w ↦ rw (w.matches-is, c.in-Defined.is, w.in-Unnamed.is) refl
      | in_default-matches w ↦ rw (w.matches-is, c.in-Defined.is) (defined c.args.o w.in_default-matches.not-Unnamed)
    ]

pub returns-in-Gives : goal.returns-in-Gives
unfolding test_by
returns-in-Gives c = rw (c.in-Given.is, c.in-Gives.is) refl

not-given : (o : Outcome) → ((g : _) → o ≡ Gives g → ⊥) → false ≡ is_given (outcome_view o)
not-given (Gives g) h = absurd (h g refl)
not-given Awaits h = refl
not-given Misfits h = refl
not-given Unnamed h = refl

pub returns-in_default-matches-2 : goal.returns-in_default-matches-2
unfolding test_by
returns-in_default-matches-2 c = rw c.in-Given.is (not-given c.args.o c.in_default-matches-2.not-Gives)
