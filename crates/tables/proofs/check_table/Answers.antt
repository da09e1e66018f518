-- `tables::check_table` meets its contract: layout, fields and shapes are the parts of the check, and each pass leaves what the next one asks.
use Rattle.tables.proofs.Passes.{laid_of, laid-few, laid-long, check-layout, check-fields, check-shapes, known_of, entries-of}
use Rattle.table_layout.specs.Laid.{Laid}
use Rattle.rules.specs.Check.{layout_ok}
use native.Mathlib.Omega.{arith}
use mathlib.Core.Bool.{true}
use mathlib.Core.Path.{◌≡◌, sym, ◌∙◌}
use Rattle.tables.proofs.check_table.Goals as goal

pub returns-then-not-layout_ok : goal.returns-then-not-layout_ok
returns-then-not-layout_ok c = check-layout c.args.table.now (sym c.layout_ok.ensures ∙ c.if-not-layout_ok.true)

pub fields_ok-requires : goal.fields_ok-requires
fields_ok-requires c =
    let t = c.args.table.now in
    let o : layout_ok t ≡ true = sym c.layout_ok.ensures ∙ c.if-not-layout_ok.false in
    let l : Laid t = laid_of t (laid-long t o) o in
    (l, c.rows-list.ensures, omega (arith, laid-few t o))

pub returns-then-not-fields_ok : goal.returns-then-not-fields_ok
returns-then-not-fields_ok c =
    let t = c.args.table.now in
    let o : layout_ok t ≡ true = sym c.layout_ok.ensures ∙ c.if-not-layout_ok.false in
    check-fields t o (sym c.fields_ok.ensures.verdict ∙ c.if-not-fields_ok.true)

pub bounds-table-0 : goal.bounds-table-0
bounds-table-0 c =
    let t = c.args.table.now in
    let o : layout_ok t ≡ true = sym c.layout_ok.ensures ∙ c.if-not-layout_ok.false in
    omega (arith, laid-long t o)

pub bodies-requires : goal.bodies-requires
bodies-requires c =
    let t = c.args.table.now in
    let o : layout_ok t ≡ true = sym c.layout_ok.ensures ∙ c.if-not-layout_ok.false in
    let l : Laid t = laid_of t (laid-long t o) o in
    (entries-of t c.index-n.result l c.index-n.ensures, omega (arith, c.index-n.ensures, laid-few t o))

pub shapes_hold-requires : goal.shapes_hold-requires
shapes_hold-requires c =
    let t = c.args.table.now in
    let o : layout_ok t ≡ true = sym c.layout_ok.ensures ∙ c.if-not-layout_ok.false in
    let l : Laid t = laid_of t (laid-long t o) o in
    known_of t _ _ c.index-n.result l c.index-n.ensures (omega (arith, c.index-n.ensures, laid-few t o, c.fields_ok.auto.classes)) (c.fields_ok.ensures.classes c.if-not-fields_ok.false) c.bodies.ensures

pub returns : goal.returns
returns c =
    let t = c.args.table.now in
    let o : layout_ok t ≡ true = sym c.layout_ok.ensures ∙ c.if-not-layout_ok.false in
    c.shapes_hold.ensures ∙ check-shapes t o c.index-n.result c.index-n.ensures (sym c.fields_ok.ensures.verdict ∙ c.if-not-fields_ok.false)
