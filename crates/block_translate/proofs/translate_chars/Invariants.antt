use Prim.Native.Nat.{◌-◌}
use mathlib.Core.Path.{◌≡◌}
use lib.ListN.{length}
use Rattle.rules.specs.Exec.{translated}
use Rattle.block_translate.proofs.translate_chars.Given as goal

abbrev pub invariant-loop-f : goal.invariant-loop-f
invariant-loop-f l = (translated l.n l.from l.to l.initial.m ≡ translated (l.f-end - l.f) l.f l.to l.m) × (length l.m ≡ length l.initial.m)
