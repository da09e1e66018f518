-- `snapshot::writing::trailer_words` meets its contract: word by word.
use mathlib.Core.Path.{◌≡◌}
use native.Mathlib.Omega.{arith}
use lib.ListN.{length}
use Rattle.rules.specs.Table.{fresh_count, size}
use Rattle.loading.proofs.Sizes.{sizes}
use Rattle.snapshot.proofs.Writings.{measured}
use borrow.Author.Rules.{rules}
use Rattle.snapshot.proofs.writing.trailer_words.Goals as goal

pub overflow_cast-m : goal.overflow_cast-m
overflow_cast-m c =
    let full : length c.args.state.links ≡ 256 = search rules in
    omega (arith, measured c.args.table.now c.args.memory.now c.args.state full c.requires.1)

pub bounds-table-0 : goal.bounds-table-0
bounds-table-0 c = omega (arith, sizes _ c.requires.0)

pub bounds-table-3 : goal.bounds-table-3
bounds-table-3 c = omega (arith, sizes _ c.requires.0)

pub bounds-table-3-2 : goal.bounds-table-3-2
bounds-table-3-2 c = omega (arith, sizes _ c.requires.0)

pub overflow_cast-result : goal.overflow_cast-result
overflow_cast-result c =
    let full : length c.args.state.links ≡ 256 = search rules in
    omega (arith, c.written_length.ensures, measured c.args.table.now c.args.memory.now c.args.state full c.requires.1, sizes _ c.requires.0)

pub returns : goal.returns
unfolding size fresh_count
returns c =
    let full : length c.args.state.links ≡ 256 = search rules in
    rw ((measured c.args.table.now c.args.memory.now c.args.state full c.requires.1).links, c.bit.ensures, c.bit-2.ensures, c.written_length.ensures)
