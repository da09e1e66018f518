use mathlib.Core.Path.{◌≡◌}
use Prim.Native.Nat.{◌+◌, ◌-◌}
use lib.ListN.{length, drop}
use Rattle.language.specs.Text.{lines}
use Rattle.language.specs.Card.{walk}
use Rattle.asm_types.specs.Views.{reader_view}
use Rattle.asm_cards.specs.Reading.{Counted}
use Rattle.asm_collect.proofs.Passes.{Collecting}
use Rattle.asm_collect.proofs.collect.Given as goal

abbrev pub invariant-loop-at : goal.invariant-loop-at
invariant-loop-at l = Collecting l.text l.syms l.n l.at l.k (walk (reader_view l.r) (lines (drop l.at l.text))) × Counted l.at (reader_view l.r) × (length l.syms ≡ length l.initial.syms)

abbrev pub decreases-loop-at : goal.decreases-loop-at
decreases-loop-at l = length l.text + 1 - l.at
