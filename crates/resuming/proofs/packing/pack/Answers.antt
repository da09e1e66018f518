-- `resuming::packing::pack` meets its contract.
use mathlib.Core.Path.{◌≡◌, sym, ap, ◌∙◌}
use native.Mathlib.Omega.{arith}
use lib.ListN.{length, length-replicate}
use lib.Seq.{length-take-le}
use Prim.Native.Nat.{ℕ}
use Rattle.resuming.proofs.Packed.{packed-count, packed-links}
use Rattle.resuming.proofs.packing.pack.Goals as goal

pub slice_bounds-copy_from_slice-end : goal.slice_bounds-copy_from_slice-end
slice_bounds-copy_from_slice-end c = sym (length-take-le _ _ (omega (arith, c.index-k.ensures, c.requires)))

pub slice_bounds-copy_from_slice-end-2 : goal.slice_bounds-copy_from_slice-end-2
slice_bounds-copy_from_slice-end-2 c = let full : length c.no_links-room.result ≡ 256 = ap length c.no_links-room.ensures ∙ length-replicate {A = ℕ} 256 0 in sym (length-take-le _ _ (omega (arith, c.index-k.ensures, c.requires)))

pub copy_from_slice-requires : goal.copy_from_slice-requires
copy_from_slice-requires c = let full : length c.no_links-room.result ≡ 256 = ap length c.no_links-room.ensures ∙ length-replicate {A = ℕ} 256 0 in length-take-le c.index-k.result c.no_links-room.result (omega (arith, c.index-k.ensures, c.requires)) ∙ sym (length-take-le c.index-k.result c.args.links.now (omega (arith, c.index-k.ensures, c.requires)))

pub returns : goal.returns
returns c = rw (packed-count c.args.links.now c.requires.room c.requires.few, packed-links c.args.links.now c.requires.room c.requires.few _ _ _ c.index-k.ensures c.copy_from_slice.ensures.after c.no_links-room.ensures)
