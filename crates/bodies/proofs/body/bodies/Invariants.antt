use Prim.Native.Nat.{ℕ, ◌≤◌}
use Rattle.rules.specs.Table.{body_at}
use lib.ListN.{length, get_or}
use mathlib.Core.Path.{◌≡◌}
use Rattle.bodies.proofs.body.bodies.Given as goal

abbrev pub invariant-loop-p : goal.invariant-loop-p
invariant-loop-p l = (length l.body ≡ length l.initial.body) × (l.b ≡ body_at l.t l.p) ×
    ((q : ℕ) → q ≤ l.p → get_or l.body q 0 ≡ body_at l.t q)
