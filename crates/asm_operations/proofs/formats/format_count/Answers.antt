-- `asm_operations::formats::format_count` meets its contract: by the row in either list, or past the end.
use Prim.Native.Nat.{ℕ}
use mathlib.Core.Path.{ap, sym, ◌∙◌}
use mathlib.Core.List.{List}
use Rattle.asm_types.specs.Views.{operation_view}
use Rattle.asm_operations.specs.Codes.{card_count}
use Rattle.asm_operations.proofs.FormatWords.{count_by, none-count, row-assembly, row-nowhere, row-operation}
use Rattle.asm_operations.proofs.formats.format_count.Goals as goal

pub returns-then-n-lt-EMPTY : goal.returns-then-n-lt-EMPTY
returns-then-n-lt-EMPTY c =
    let d = c in
    let a = d in
    let o = operation_view a.args.o in
    c.count_in.ensures
    ∙ ap (λ (l : List ℕ). card_count l) (row-assembly o _ d.code_of-n.ensures c.if-n-lt-EMPTY.true _ c.assemblies-own.ensures)
    ∙ sym (count_by o)

pub returns-then-k-lt-COUNT : goal.returns-then-k-lt-COUNT
returns-then-k-lt-COUNT c =
    let k = c in
    let d = k in
    let a = d in
    let o = operation_view a.args.o in
    c.count_in-then-k-lt-COUNT.ensures
    ∙ ap (λ (l : List ℕ). card_count l) (row-operation o _ d.code_of-n.ensures k.if-n-lt-EMPTY.false _ k.row_index-k.ensures _ a.requires c.if-k-lt-COUNT.true)
    ∙ sym (count_by o)

pub returns : goal.returns
returns c =
    let k = c in
    let d = k in
    let a = d in
    let o = operation_view a.args.o in
    sym (count_by o ∙ ap (λ (l : List ℕ). card_count l) (row-nowhere o _ d.code_of-n.ensures k.if-n-lt-EMPTY.false _ k.row_index-k.ensures c.if-k-lt-COUNT.false) ∙ none-count)
