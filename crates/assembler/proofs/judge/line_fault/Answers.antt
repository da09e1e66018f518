-- `assembler::judge::line_fault` meets its contract: the conditions with the shape fault.
use Rattle.language.specs.Fault.{fault_of}
use Rattle.asm_types.specs.Views.{symbols_in}
use Rattle.assembler.specs.Judges.{deck_from}
use mathlib.Core.Path.{refl}
use Rattle.assembler.proofs.judge.line_fault.Goals as goal

pub returns : goal.returns
unfolding fault_of
returns c cs =
    rw (c.shape_fault-shape.ensures cs) at (c.fault_of.ensures (deck_from cs (symbols_in c.args.symbols.now.words.now c.args.symbols.now.n) c.args.table.now) refl)
