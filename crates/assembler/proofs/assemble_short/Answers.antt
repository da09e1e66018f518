-- `assembler::assemble_short` meets its contract: what is collected and drafted is what `finish_indexed` asks.
use Rattle.assembler.proofs.Tables.{prepared}
use lib.ListN.{length, length-replicate}
use mathlib.Core.Path.{◌≡◌, sym, subst, ◌∙◌}
use Prim.Native.Nat.{ℕ, ◌≤◌}
use borrow.Author.Rules.{rules}
use Rattle.assembler.proofs.assemble_short.Goals as goal

pub collect-c-requires : goal.collect-c-requires
collect-c-requires c = (c.rows-list.ensures, c.requires, search rules)

pub fill-long-requires : goal.fill-long-requires
fill-long-requires c = (c.rows-list.ensures, c.requires, search rules, c.collect-c.ensures.header_is)

pub slice_bounds-finish_indexed-end-2 : goal.slice_bounds-finish_indexed-end-2
slice_bounds-finish_indexed-end-2 c =
    let w = c.fill-long.new.draft in
    let e : length w ≡ 180240 = c.fill-long.ensures.same ∙ length-replicate {A = ℕ} 180240 0 in
    subst (λ (m : ℕ). c.fill-long.result ≤ m) (sym e) c.fill-long.ensures.end_le

pub finish_indexed-requires : goal.finish_indexed-requires
finish_indexed-requires c =
    (c.rows-list.ensures, prepared _ _ c.fill-long.new.draft _ c.fill-long.result c.requires c.collect-c.ensures c.fill-long.ensures.image_is, search rules, search rules)

pub returns : goal.returns
returns c = c.finish_indexed.ensures
