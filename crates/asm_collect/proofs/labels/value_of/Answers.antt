-- `asm_collect::labels::value_of` meets its contract: each return by the sort that led there.
use mathlib.Core.Path.{refl, sym}
use native.Mathlib.Omega.{arith}
use Rattle.asm_types.specs.Views.{card_view, symbols_in}
use Rattle.asm_collect.proofs.Values.{no_value, placed-value}
use Rattle.asm_collect.proofs.labels.value_of.Goals as goal

pub returns-then-sort-ge-ENTRY : goal.returns-then-sort-ge-ENTRY
returns-then-sort-ge-ENTRY c = (sym (placed-value (symbols_in c.args.symbols.now.words.now c.args.symbols.now.n) (card_view c.args.c c.args.s.now) c.args.sort c.if-sort-ge-ENTRY.true), λ h. omega (arith, c.requires.1.place_le))

pub returns-then-sort-eq-WORD : goal.returns-then-sort-eq-WORD
returns-then-sort-eq-WORD c = (rw c.if-sort-eq-WORD.true refl, λ h. omega (arith, c.if-sort-ge-ENTRY.false))

pub returns-then-sort-eq-EQUAL : goal.returns-then-sort-eq-EQUAL
returns-then-sort-eq-EQUAL c = (rw c.if-sort-eq-EQUAL.true c.value_at.ensures, λ h. omega (arith, c.if-sort-ge-ENTRY.false))

pub returns-then-sort-eq-INTERNAL : goal.returns-then-sort-eq-INTERNAL
returns-then-sort-eq-INTERNAL c = (rw c.if-sort-eq-INTERNAL.true c.value_at-then-sort-eq-INTERNAL.ensures, λ h. omega (arith, c.if-sort-ge-ENTRY.false))

pub returns-then-sort-eq-EXTERNAL : goal.returns-then-sort-eq-EXTERNAL
returns-then-sort-eq-EXTERNAL c = (rw c.if-sort-eq-EXTERNAL.true refl, λ h. omega (arith, c.if-sort-ge-ENTRY.false))

pub returns : goal.returns
returns c = (sym (no_value (symbols_in c.args.symbols.now.words.now c.args.symbols.now.n) (card_view c.args.c c.args.s.now) c.args.sort (omega (arith, c.if-sort-ge-ENTRY.false)) c.if-sort-eq-WORD.false c.if-sort-eq-EQUAL.false c.if-sort-eq-INTERNAL.false c.if-sort-eq-EXTERNAL.false), λ h. omega (arith, c.if-sort-ge-ENTRY.false))
