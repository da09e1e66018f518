use mathlib.Core.Path.{refl}
use native.Mathlib.Omega.{arith}
use Rattle.rules.specs.Table.{size}
use Rattle.exec_calls.proofs.Places.{header}
use Rattle.exec_control.proofs.Entered.{entry-below, entry-unaligned, entry_past, entry_other, entry_found}
use Rattle.exec_control.proofs.entry_of.Goals as goal

pub returns-then-v-lt-ENTRY_BASE : goal.returns-then-v-lt-ENTRY_BASE
returns-then-v-lt-ENTRY_BASE c = entry-below _ _ c.if-v-lt-ENTRY_BASE.true

pub returns-then-a-ne0 : goal.returns-then-a-ne0
returns-then-a-ne0 c = entry-unaligned _ _ _ c.index-a.ensures c.if-v-lt-ENTRY_BASE.false c.if-a-ne0.true

pub bounds-t-0 : goal.bounds-t-0
bounds-t-0 c = omega (arith, (header c.args.t.now c.requires).long)

pub returns-then-index-q : goal.returns-then-index-q
unfolding size
returns-then-index-q c = entry_past _ _ _ c.index-a.ensures c.if-v-lt-ENTRY_BASE.false _ refl (rw c.index.ensures at c.if-index-q.true)

pub bounds-t-q : goal.bounds-t-q
bounds-t-q c = omega (arith, c.index.ensures, (header c.args.t.now c.requires).long)

pub returns-then-t-q-ne-ENT : goal.returns-then-t-q-ne-ENT
unfolding size
returns-then-t-q-ne-ENT c = entry_other _ _ _ c.index-a.ensures c.if-v-lt-ENTRY_BASE.false _ refl (rw c.index.ensures at c.if-index-q.false) c.if-t-q-ne-ENT.true

pub returns : goal.returns
unfolding size
returns c = entry_found _ _ _ c.index-a.ensures c.if-v-lt-ENTRY_BASE.false _ refl c.if-a-ne0.false (rw c.index.ensures at c.if-index-q.false) c.if-t-q-ne-ENT.false
