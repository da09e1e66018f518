-- `asm_operations::names::assembly_named` meets its contract: the row found tells the operation.
use Prim.Native.Nat.{◌<◌}
use native.Mathlib.Omega.{arith}
use borrow.Author.Rules.{rules}
use Rattle.asm_operations.proofs.Assembled.{assembly-found, assembly-inside, assembly-nowhere}
use Rattle.asm_operations.proofs.names.assembly_named.Goals as goal

pub returns-in_default : goal.returns-in_default
returns-in_default c =
    let f = c in
    assembly-nowhere _ f.assemblies-list.ensures _ _ _ _ f.find_letters_in-found.ensures (omega arith) (omega arith)
    c.in_default.is

pub overflow_cast-result : goal.overflow_cast-result
overflow_cast-result c =
    let f = c in
    let i : c.in-Some.i < 14 =
    assembly-inside _ f.assemblies-list.ensures _ _ _ _ f.find_letters_in-found.ensures _ c.in-Some.is in
    search rules

pub returns : goal.returns
returns c =
    let f = c in
    assembly-found _ f.assemblies-list.ensures _ _ _ _ f.find_letters_in-found.ensures _ c.in-Some.is
