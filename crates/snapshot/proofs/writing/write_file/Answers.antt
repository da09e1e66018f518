-- `snapshot::writing::write_file` meets its contract: memory, links, fresh addresses and trailer, one behind another.
use mathlib.Core.Path.{◌≡◌, refl, sym}
use native.Mathlib.Omega.{arith}
use lib.ListN.{length}
use lib.Seq.{length-take-le}
use Rattle.snap_core.proofs.Tables.{fresh-inside, fresh-part}
use Rattle.snapshot.proofs.Writings.{measured, write-parts}
use borrow.Author.Rules.{rules}
use Rattle.snapshot.proofs.writing.write_file.Goals as goal

pub write_memory-requires : goal.write_memory-requires
write_memory-requires c =
    let full : length c.args.state.links ≡ 256 = search rules in
    let d = measured c.args.table.now c.args.memory.now c.args.state full c.requires.1 in
    (c.requires.0, d.own, omega (arith, c.requires.2))

pub slice_bounds-links-end : goal.slice_bounds-links-end
slice_bounds-links-end c =
    let full : length c.args.state.links ≡ 256 = search rules in
    let d = measured c.args.table.now c.args.memory.now c.args.state full c.requires.1 in
    omega (arith, c.index-k.ensures)

pub slice_bounds-write_words-end : goal.slice_bounds-write_words-end
slice_bounds-write_words-end c =
    let full : length c.args.state.links ≡ 256 = search rules in
    let d = measured c.args.table.now c.args.memory.now c.args.state full c.requires.1 in
    sym (length-take-le c.index-k.result c.args.state.links (omega (arith, c.index-k.ensures)))

pub write_words-requires : goal.write_words-requires
write_words-requires c =
    let full : length c.args.state.links ≡ 256 = search rules in
    let d = measured c.args.table.now c.args.memory.now c.args.state full c.requires.1 in
    omega (arith, length-take-le c.index-k.result c.args.state.links (omega (arith, c.index-k.ensures)), c.index-k.ensures, c.write_memory.auto.file, c.requires.2)

pub overflow_add-to : goal.overflow_add-to
overflow_add-to c = omega (arith, c.fresh_base-from.ensures, c.fresh_count-f.ensures, fresh-inside _ c.requires.0)

pub offset_bounds-table-from : goal.offset_bounds-table-from
offset_bounds-table-from c = omega (arith, c.fresh_base-from.ensures, c.fresh_count-f.ensures, fresh-inside _ c.requires.0)

pub slice_bounds-write_words-end-2 : goal.slice_bounds-write_words-end-2
slice_bounds-write_words-end-2 c = omega (arith, c.fresh_base-from.ensures, c.fresh_count-f.ensures, fresh-inside _ c.requires.0)

pub returns : goal.returns
returns c =
    let full : length c.args.state.links ≡ 256 = search rules in
    let d = measured c.args.table.now c.args.memory.now c.args.state full c.requires.1 in
    write-parts c.args.table.now c.args.memory.now _ _ _ _ _ _ _ _ c.args.state _ _ _ _ c.index-k.result d full c.index-k.ensures refl (fresh-part _ _ _ c.requires.0 c.fresh_base-from.ensures c.fresh_count-f.ensures) c.trailer_words-words.ensures c.write_memory.ensures c.write_words.ensures c.write_words-2.ensures c.write_words-3.ensures refl refl (rw c.fresh_count-f.ensures)
