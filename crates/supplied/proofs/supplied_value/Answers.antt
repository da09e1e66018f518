-- The names from name i on are looked up as the whole table is; no name before i is the key.
use Prim.Native.Nat.{ℕ, ◌≤◌, ◌<◌}
use native.Mathlib.Omega.{arith}
use mathlib.Core.Path.{sym, ap, ◌∙◌}
use mathlib.Core.List.{List, []}
use borrow.Author.Rules.{rules}
use lib.ListN.{length, get_or}
use Rattle.ops.specs.Lookup.{by_cell}
use Rattle.supplied.specs.Supplied.{supplies, supply_cells, no_supply, value_at}
use Rattle.std.specs.Prelude.{Some}
use Rattle.ops.proofs.First.{loop-here, loop-next, loop-last, cells_count, cells_at}
use Rattle.supplied.proofs.Laws.{supplies-count, value-word, names-found}
use Rattle.supplied.proofs.supplied_value.Goals as goal

pub loop-row-init : goal.loop-row-init
loop-row-init c =
    let a = c.args in
    let q = c.supplies-table.ensures in
    (search rules, q, rw c.pack_name-key.ensures (names-found _ q a.a a.b a.c a.d a.e))

pub overflow_cast-result : goal.overflow_cast-result
overflow_cast-result c =
    let l = c in
    let h : l.loop-row.row-index < length supplies = rw supplies-count (omega arith) in
    rw (cells_at supply_cells supplies _ l.loop-row.invariant.1 no_supply l.loop-row.row-index h) record { fits = value-word l.loop-row.row-index h }

pub returns-then-row-key : goal.returns-then-row-key
returns-then-row-key c =
    let l = c in
    let k = l.pack_name-key.result in
    let q = l.loop-row.invariant.1 in
    let h : l.loop-row.row-index < length supplies = rw supplies-count (omega arith) in
    ap (λ (cells : List ℕ). Some (get_or cells 1 0)) (cells_at supply_cells supplies _ q no_supply l.loop-row.row-index h)
    ∙ ap value_at (sym (loop-here by_cell [] k _ l.loop-row.row-index (rw (cells_count supply_cells supplies _ q) h) c.if-row-key.true))
    ∙ l.loop-row.invariant.2

pub loop-row-preserved : goal.loop-row-preserved
loop-row-preserved c =
    let l = c in
    let k = l.pack_name-key.result in
    let q = l.loop-row.invariant.1 in
    let h : l.loop-row.row-index < length supplies = rw supplies-count (omega arith) in (
      search rules,
      q,
      ap value_at (sym (loop-next by_cell [] k _ l.loop-row.row-index (rw (cells_count supply_cells supplies _ q) h) c.if-row-key.false))
          ∙ l.loop-row.invariant.2,
    )

pub returns : goal.returns
returns c =
    let l = c in
    let k = l.pack_name-key.result in
    let q = l.loop-row.invariant.1 in
    let h : length supplies ≤ l.loop-row.row-index = rw supplies-count (omega arith) in
    ap value_at (sym (loop-last by_cell [] k _ l.loop-row.row-index (rw (cells_count supply_cells supplies _ q) h))) ∙ l.loop-row.invariant.2
