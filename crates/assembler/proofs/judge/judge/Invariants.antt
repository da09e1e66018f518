use Rattle.assembler.specs.Judges.{deck_from}
use Rattle.assembler.proofs.Lines.{Judging}
use Rattle.asm_types.specs.Views.{reader_view, symbols_in}
use Rattle.language.specs.Card.{cards_of}
use lib.ListN.{length}
use Prim.Native.Nat.{◌+◌, ◌-◌}
use Rattle.assembler.proofs.judge.judge.Given as goal

abbrev pub invariant-loop-from : goal.invariant-loop-from
invariant-loop-from l = Judging l.text (deck_from (cards_of l.text) (symbols_in l.symbols.words.now l.symbols.n) l.table) l.size (reader_view l.r) l.from

abbrev pub decreases-loop-from : goal.decreases-loop-from
decreases-loop-from l = length l.text + 1 - l.from
