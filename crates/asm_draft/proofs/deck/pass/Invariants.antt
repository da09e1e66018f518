use Rattle.asm_draft.proofs.Passing.{Passing}
use Rattle.asm_draft.specs.Parts.{part_in}
use Rattle.asm_types.specs.Views.{reader_view, symbols_in}
use lib.ListN.{length}
use Prim.Native.Nat.{◌+◌, ◌-◌}
use Rattle.asm_draft.proofs.deck.pass.Given as goal

abbrev pub invariant-loop-from : goal.invariant-loop-from
invariant-loop-from l = Passing (part_in l.part (symbols_in l.symbols.words.now l.symbols.n)) l.text l.initial.draft l.end l.draft l.w l.from (reader_view l.r)

abbrev pub decreases-loop-from : goal.decreases-loop-from
decreases-loop-from l = length l.text + 1 - l.from
