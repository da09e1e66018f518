-- `snapshot::frozen::frozen_links` meets its contract: the file's links are read into the front of an array of 0s.
use mathlib.Core.Path.{◌≡◌, sym, ◌∙◌}
use Prim.Native.Nat.{◌≤◌}
use native.Mathlib.Omega.{arith}
use lib.ListN.{length}
use lib.Seq.{length-take-le}
use Rattle.rules.specs.Snapshot.{links_in}
use Rattle.snap_core.proofs.Trailers.{trailed}
use Rattle.snapshot.proofs.Machines.{full-array, links-array}
use Rattle.snapshot.proofs.frozen.frozen_links.Goals as goal

pub trailer_word-requires : goal.trailer_word-requires
trailer_word-requires c = (omega (arith, trailed _ c.requires.0), omega arith)

pub slice_bounds-read_words-end : goal.slice_bounds-read_words-end
slice_bounds-read_words-end c =
    let full : length c.no_links-links.result ≡ 256 = full-array _ c.no_links-links.ensures in
    sym (length-take-le _ _ (omega (arith, c.index-k.ensures, c.trailer_word.ensures, c.requires.1)))

pub read_words-requires : goal.read_words-requires
read_words-requires c =
    let full : length c.no_links-links.result ≡ 256 = full-array _ c.no_links-links.ensures in
    let few : c.index-k.result ≤ length c.no_links-links.result = omega (arith, c.index-k.ensures, c.trailer_word.ensures, c.requires.1) in
    omega (arith, length-take-le c.index-k.result c.no_links-links.result few, c.links_from.ensures, c.index-k.ensures, c.trailer_word.ensures, trailed _ c.requires.0)

pub returns : goal.returns
returns c =
    let k : c.index-k.result ≡ links_in c.args.file.now = c.index-k.ensures ∙ c.trailer_word.ensures in
    let few : c.index-k.result ≤ 256 = omega (arith, c.requires.1) in
    links-array _ _ _ _ _ few c.no_links-links.ensures c.read_words.ensures ∙ rw (c.links_from.ensures, k)
