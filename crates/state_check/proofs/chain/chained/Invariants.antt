use Prim.Native.Nat.{◌≤◌}
use Rattle.state_check.proofs.Chained.{chain_over}
use lib.ListN.{length, take, drop}
use mathlib.Core.Path.{◌≡◌}
use Rattle.state_check.proofs.chain.chained.Given as goal

abbrev pub invariant-loop-link : goal.invariant-loop-link
invariant-loop-link l = (l.link-index ≤ length l.link-items) ×
    (chain_over l.t 0 (take l.k l.links) ≡ chain_over l.t l.beneath (drop l.link-index (take l.k l.links)))
