-- `entries::fields::fields_ok` meets its contract: the entries before p keep the rules, and their classes are written.
use Rattle.entries.proofs.Formats.{row_inside, entry-cells, class-cells, entry-unknown, class-past}
use Rattle.entries.proofs.Filled.{filled-last, filled_more}
use Rattle.table_layout.proofs.Belows.{below-zero, below_more, below_fails}
use Rattle.entries.specs.Coded.{entry_ok}
use Rattle.rules.specs.Table.{class_at}
use Rattle.ops.proofs.Rows.{table-row}
use Rattle.ops.specs.Class.{class_code}
use Rattle.base.proofs.Bool.{failed, true-ok}
use lib.ListN.{get_or, length-set}
use native.Mathlib.Omega.{arith}
use mathlib.Core.List.{[]}
use mathlib.Core.Path.{◌≡◌, refl, sym, ◌∙◌}
use Prim.Native.Nat.{ℕ, ◌<◌}
use Rattle.entries.proofs.fields.fields_ok.Goals as goal

pub loop-p-init : goal.loop-p-init
loop-p-init c = (refl, below-zero _, λ q h. absurd (omega arith))

pub returns-in_default : goal.returns-in_default
returns-in_default c =
    let l = c in
    let t = l.args.table.now in
    let p = l.loop-p.p in
    record {
      verdict = sym (below_fails (entry_ok t) (get_or t 0 0) p (omega arith) (entry-unknown t p (sym c.row_at.ensures ∙ c.in_default.is)));
      classes = λ h. absurd (failed (true-ok _ h));
    }

pub offset_bounds-list-i : goal.offset_bounds-list-i
offset_bounds-list-i c = omega (arith, row_inside _ (sym c.row_at.ensures ∙ c.in-Some.is))

pub bounds-list-i : goal.bounds-list-i
bounds-list-i c = omega (arith, row_inside _ (sym c.row_at.ensures ∙ c.in-Some.is))

pub entry_by-requires : goal.entry_by-requires
entry_by-requires c = (c.requires.0, omega arith)

pub returns-then-not-entry_by : goal.returns-then-not-entry_by
returns-then-not-entry_by c =
    let l = c in
    let a = l in
    let t = a.args.table.now in
    let p = l.loop-p.p in
    let i = c.in-Some.i in
    let e = sym c.row_at.ensures ∙ c.in-Some.is in
    let r = table-row a.args.list.now a.requires.1 i (row_inside _ e) in
    record {
      verdict = sym (below_fails (entry_ok t) (get_or t 0 0) p (omega arith) (entry-cells t p i e (get_or a.args.list.now i []) r ∙ sym c.entry_by.ensures ∙ c.if-not-entry_by.true));
      classes = λ h. absurd (failed (true-ok _ h));
    }

pub offset_bounds-list-i-in-loop-p : goal.offset_bounds-list-i-in-loop-p
offset_bounds-list-i-in-loop-p c = omega (arith, row_inside _ (sym c.row_at.ensures ∙ c.in-Some.is))

pub bounds-list-i-in-loop-p : goal.bounds-list-i-in-loop-p
bounds-list-i-in-loop-p c = omega (arith, row_inside _ (sym c.row_at.ensures ∙ c.in-Some.is))

pub loop-p-preserved : goal.loop-p-preserved
loop-p-preserved c =
    let l = c in
    let a = l in
    let t = a.args.table.now in
    let p = l.loop-p.p in
    let i = c.in-Some.i in
    let e = sym c.row_at.ensures ∙ c.in-Some.is in
    let r = table-row a.args.list.now a.requires.1 i (row_inside _ e) in
    let size : p < get_or t 0 0 = omega arith in (
      length-set l.loop-p.classes p _ ∙ l.loop-p.invariant.0,
      below_more (entry_ok t) p l.loop-p.invariant.1
          (entry-cells t p i e (get_or a.args.list.now i []) r ∙ sym c.entry_by.ensures ∙ c.if-not-entry_by.false),
      filled_more (λ (x : ℕ). class_code (class_at t x)) l.loop-p.classes p _ (omega (arith, l.loop-p.invariant.0))
          (c.class_of.ensures ∙ class-cells t p i e (get_or a.args.list.now i []) r size) l.loop-p.invariant.2,
    )

pub returns : goal.returns
returns c =
    let l = c in
    let t = l.args.table.now in
    let n : l.loop-p.p ≡ get_or t 0 0 = omega arith in
    let m : l.index-n.result ≡ l.loop-p.p = omega arith in
    record {
      verdict = sym (rw (← n) l.loop-p.invariant.1);
      classes = λ h. rw (← n, m) (filled-last (λ (x : ℕ). class_code (class_at t x)) l.loop-p.classes l.loop-p.p _ (omega (arith, l.loop-p.invariant.0)) (rw n (class-past t)) l.loop-p.invariant.2);
    }
