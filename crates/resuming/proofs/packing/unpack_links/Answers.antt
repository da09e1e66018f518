-- `resuming::packing::unpack_links` meets its contract.
use mathlib.Core.Path.{◌≡◌, refl, sym, ◌∙◌}
use native.Mathlib.Omega.{arith}
use lib.ListN.{length, replicate}
use lib.Seq.{length-take-le}
use Rattle.resuming.proofs.Packed.{unpacked}
use borrow.Author.Rules.{rules}
use Rattle.resuming.proofs.packing.unpack_links.Goals as goal

pub slice_bounds-from-end : goal.slice_bounds-from-end
slice_bounds-from-end c = let full : length c.args.s.links ≡ 256 = search rules in omega (arith, c.index-k.ensures, c.requires)

pub slice_bounds-copy_from_slice-end : goal.slice_bounds-copy_from_slice-end
slice_bounds-copy_from_slice-end c = let full : length c.args.s.links ≡ 256 = search rules in sym (length-take-le _ _ (omega (arith, c.index-k.ensures, c.requires)))

pub slice_bounds-copy_from_slice-end-2 : goal.slice_bounds-copy_from_slice-end-2
slice_bounds-copy_from_slice-end-2 c = sym (length-take-le _ _ (omega (arith, c.index-k.ensures, c.requires)))

pub copy_from_slice-requires : goal.copy_from_slice-requires
copy_from_slice-requires c = let full : length c.args.s.links ≡ 256 = search rules in length-take-le c.index-k.result (replicate 257 0) (omega (arith, c.index-k.ensures, c.requires)) ∙ sym (length-take-le c.index-k.result c.args.s.links (omega (arith, c.index-k.ensures, c.requires)))

pub returns : goal.returns
returns c = let full : length c.args.s.links ≡ 256 = search rules in unpacked _ _ _ _ _ c.index-k.ensures c.requires full refl c.copy_from_slice.ensures.after
