-- No mnemonic is both an operation's and an assembly operation's.
-- Assumes nothing.
use Prim.Native.Nat.{ℕ}
use mathlib.Core.Path.{ap}
use mathlib.Core.Bool.{Bool}
use lib.ListN.{get_or}
use Rattle.base.specs.Test.{◌and◌, Ok}
use Rattle.ops.specs.Ops.{rows, letters_of}
use Rattle.ops.specs.Assembly.{Assembly, SEC, assemblies, assembly_row}
use Rattle.ops.specs.Distinct.{absent, MnemonicsApart}
use Rattle.ops.specs.Lookup.{by_letters, no_row}
use Rattle.ops.proofs.First.{absent-at}
use Rattle.ops.proofs.Every.{every, every-at}

abbrev pub by_mnemonic : Assembly → ℕ
by_mnemonic a = letters_of (assembly_row a).mnemonic

-- one test over all pairs
abbrev in_no_row : ℕ → Assembly → Bool
in_no_row j a = absent by_letters (by_mnemonic a) rows

none-in-both : Ok (every in_no_row 0 assemblies)
unfolding rows Ok ◌and◌
none-in-both = tt

pub mnemonics-apart : MnemonicsApart
mnemonics-apart i j h g e =
    absent-at by_letters no_row (by_mnemonic (get_or assemblies j SEC)) rows (every-at in_no_row SEC assemblies none-in-both j g) i h
    (ap letters_of e)
