-- `asm_symbols::fields::add`: the five words stand behind the symbols.
use native.Mathlib.Omega.{arith}
use lib.ListN.{length-set}
use Rattle.asm_symbols.proofs.Stores.{added}
use Rattle.asm_symbols.proofs.fields.add.Goals as goal

pub bounds-syms-i-2 : goal.bounds-syms-i-2
bounds-syms-i-2 c = simp length-set (omega arith)

pub bounds-syms-i-3 : goal.bounds-syms-i-3
bounds-syms-i-3 c = simp length-set (omega arith)

pub bounds-syms-i-4 : goal.bounds-syms-i-4
bounds-syms-i-4 c = simp length-set (omega arith)

pub bounds-syms-i-5 : goal.bounds-syms-i-5
bounds-syms-i-5 c = simp length-set (omega arith)

pub returns : goal.returns
returns c = added c.args.syms.now c.args.n c.args.name c.args.line c.args.sort c.args.value c.args.letter c.requires.0 c.requires.1 c.requires.2 c.requires.3 c.requires.4
