-- `snapshot::waking::restore_checked` meets its contract: each refusal in its place, then memory is copied and its fresh words are supplied.
use mathlib.Core.Path.{◌≡◌, refl, sym, ap, ◌∙◌}
use native.Mathlib.Omega.{arith}
use lib.ListN.{length}
use Rattle.base.proofs.Bool.{test-true, true-ok}
use Rattle.rules.specs.Snapshot.{memory_in}
use Rattle.rules.specs.Start.{refreshed}
use Rattle.snap_core.proofs.Trailers.{trailed}
use Rattle.snapshot.proofs.Wakings.{frozen-few, frozen-own, refuses-frozen, refuses-lending, refuses-program, refuses-supply, refuses-trailer, wakes}
use Rattle.snapshot.proofs.waking.restore_checked.Goals as goal

pub returns-then-not-trailer_ok : goal.returns-then-not-trailer_ok
returns-then-not-trailer_ok c = refuses-trailer _ _ _ _ _ _ (test-true _ c.requires) (sym c.trailer_ok.ensures ∙ c.if-not-trailer_ok.true) refl

pub same_program-requires : goal.same_program-requires
same_program-requires c = (c.requires, true-ok _ (sym c.trailer_ok.ensures ∙ c.if-not-trailer_ok.false))

pub returns-then-not-same_program : goal.returns-then-not-same_program
returns-then-not-same_program c = refuses-program _ _ _ _ _ _ (test-true _ c.requires) (sym c.trailer_ok.ensures ∙ c.if-not-trailer_ok.false) (sym c.same_program.ensures ∙ c.if-not-same_program.true) refl

pub frozen_ok-requires : goal.frozen_ok-requires
frozen_ok-requires c = (c.requires, true-ok _ (sym c.trailer_ok.ensures ∙ c.if-not-trailer_ok.false))

pub returns-then-not-frozen_ok : goal.returns-then-not-frozen_ok
returns-then-not-frozen_ok c = refuses-frozen _ _ _ _ _ _ (test-true _ c.requires) (sym c.trailer_ok.ensures ∙ c.if-not-trailer_ok.false) (sym c.same_program.ensures ∙ c.if-not-same_program.false) (sym c.frozen_ok.ensures ∙ c.if-not-frozen_ok.true) refl

pub fresh_count-requires : goal.fresh_count-requires
fresh_count-requires c = c.requires

pub returns-then-fresh-fresh_count : goal.returns-then-fresh-fresh_count
returns-then-fresh-fresh_count c = refuses-supply _ _ _ _ _ _ (test-true _ c.requires) (sym c.trailer_ok.ensures ∙ c.if-not-trailer_ok.false) (sym c.same_program.ensures ∙ c.if-not-same_program.false) (sym c.frozen_ok.ensures ∙ c.if-not-frozen_ok.false) (rw c.fresh_count.ensures at c.if-fresh-fresh_count.true) refl

pub trailer_word-requires : goal.trailer_word-requires
trailer_word-requires c =
    let t = trailed _ (true-ok _ (sym c.trailer_ok.ensures ∙ c.if-not-trailer_ok.false)) in
    (omega arith, omega arith)

pub returns-then-memory-index : goal.returns-then-memory-index
returns-then-memory-index c = refuses-lending _ _ _ _ _ _ (test-true _ c.requires) (sym c.trailer_ok.ensures ∙ c.if-not-trailer_ok.false) (sym c.same_program.ensures ∙ c.if-not-same_program.false) (sym c.frozen_ok.ensures ∙ c.if-not-frozen_ok.false) (c.if-fresh-fresh_count.false ∙ c.fresh_count.ensures) (rw (c.index.ensures, c.trailer_word.ensures) at c.if-memory-index.true) refl

pub memory_from-requires : goal.memory_from-requires
memory_from-requires c = true-ok _ (sym c.trailer_ok.ensures ∙ c.if-not-trailer_ok.false)

pub read_words-requires : goal.read_words-requires
read_words-requires c =
    let t = trailed _ (true-ok _ (sym c.trailer_ok.ensures ∙ c.if-not-trailer_ok.false)) in
    omega (arith, c.memory_from.ensures, c.if-memory-index.false, c.index.ensures, c.trailer_word.ensures)

pub supply-requires : goal.supply-requires
supply-requires c =
    let own = frozen-own _ _ (true-ok _ (sym c.frozen_ok.ensures ∙ c.if-not-frozen_ok.false)) in
    (c.requires, omega (arith, c.read_words.auto.ws, c.if-memory-index.false, c.index.ensures, c.trailer_word.ensures), c.if-fresh-fresh_count.false ∙ c.fresh_count.ensures)

pub frozen_state-state-requires : goal.frozen_state-state-requires
frozen_state-state-requires c = (true-ok _ (sym c.trailer_ok.ensures ∙ c.if-not-trailer_ok.false), frozen-few _ _ (true-ok _ (sym c.frozen_ok.ensures ∙ c.if-not-frozen_ok.false)))

pub returns : goal.returns
returns c =
    let m : length c.args.memory.now ≡ memory_in c.args.file.now = c.if-memory-index.false ∙ c.index.ensures ∙ c.trailer_word.ensures in
    wakes _ _ _ _ _ _ _ c.requires (true-ok _ (sym c.trailer_ok.ensures ∙ c.if-not-trailer_ok.false)) (true-ok _ (sym c.same_program.ensures ∙ c.if-not-same_program.false)) (true-ok _ (sym c.frozen_ok.ensures ∙ c.if-not-frozen_ok.false)) (c.if-fresh-fresh_count.false ∙ c.fresh_count.ensures) m (rw c.frozen_state-state.ensures) (c.supply.ensures ∙ ap (refreshed c.args.table.now c.args.fresh.now) (c.read_words.ensures ∙ rw (c.memory_from.ensures, m)))
